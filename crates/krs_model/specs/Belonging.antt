-- Whose contexts are, and what is left of a client that has left: profile, believed caller; profile, leaving. The form
-- is this project's own.
use Rattle.std.specs.Prelude.{[], ◌++◌, ◌∷◌, ◌≡◌, ◌≢◌, Bool, false, IsOk, List, Some, true, ℕ}
use Rattle.krs_types.specs.declared.ask.Op.TheVariants.{Hello, Leave}
use Rattle.krs_types.specs.declared.{caller.Caller.Caller, context.Context.Context, event.Event.Event}
use Rattle.krs_model.specs.Confidentiality.{KeepsPrivate}
use Rattle.krs_model.specs.{History.IsLegal, Revocation.Reads, State.{Queue, starting_at, State}, Step.Step, Table.at}

-- no context and no queue of the store is the client's
pub record HasNothing (client : ℕ) (s : State) : Type 0 where
  pub contexts : (n : ℕ) (c : Context) → at s.contexts n ≡ Some c → c.client ≢ client
  pub queues : (n : ℕ) (queue : Queue) → at s.queues n ≡ Some queue → queue.client ≢ client

-- a HELLO of the client was accepted, as this caller
pub record Greets (client : ℕ) (caller : Caller) (event : Event) : Type 0 where
  pub by : event.lane ≡ client
  pub asked : event.ask.op ≡ Hello caller
  pub accepted : IsOk event.reply

-- none of these events is a LEAVE of the client
abbrev pub HasStayed : ℕ → List Event → Type 0
HasStayed client [] = Unit {0}
HasStayed client (event ∷ events) = (event.lane ≡ client → event.ask.op ≡ Leave → ⊥) × HasStayed client events

-- the client said in these events that it acts as this caller, and has not left since
abbrev pub HasGreeted : ℕ → Caller → List Event → Type 0
HasGreeted client caller events =
    (before : List Event) × (event : Event) × (later : List Event) × (events ≡ before ++ event ∷ later)
    × Greets client caller event × HasStayed client later

-- in each history of a store that began empty: each context acts as a caller that its client has named, and not before
-- its last LEAVE
abbrev pub ContextsAreGreeted : Type 0
ContextsAreGreeted =
    (n : ℕ) (events : List Event) (end : State) → IsLegal (starting_at n) events end
    → (number : ℕ) (c : Context) → at end.contexts number ≡ Some c → HasGreeted c.client c.caller events

-- Whoever reads a key that a uid has to itself, and has not given away, has said by HELLO that it is that uid, and has
-- not left since: behind a guard, one whom the kernel names so
abbrev pub ReadersAreGreeted : Type 0
ReadersAreGreeted =
    (n uid : ℕ) (before : List Event) (old : State) (last : ℕ → Bool)
    → KeepsPrivate uid (λ k. false) (starting_at n) before old last
    → (reading : Event) (end : State) (serial : ℕ) → last serial ≡ true → Step old reading end
    → Reads old reading serial
    → (caller : Caller) × (caller.uid ≡ uid) × HasGreeted reading.lane caller before
