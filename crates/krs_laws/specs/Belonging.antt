-- Whose contexts and queues are in each history of a store that began empty: profile, believed caller; profile,
-- leaving; profile, queues by number. The laws of contexts are krs_model's (specs/Belonging.antt), told of one store.
use Rattle.std.specs.Prelude.{◌++◌, ◌∷◌, ◌≡◌, Bool, false, List, Ok, Some, true, ℕ}
use Rattle.krs_types.specs.declared.ask.{Answer.TheVariants.Number, Op.TheVariants.{Leave, OpenQueue}}
use Rattle.krs_types.specs.declared.{caller.Caller.Caller, context.Context.Context, event.Event.Event}
use Rattle.krs_model.specs.{Belonging.{HasGreeted, HasNothing, HasStayed}, Confidentiality.KeepsPrivate}
use Rattle.krs_model.specs.{History.IsLegal, Revocation.Reads, State.{Queue, starting_at, State}, Step.Step, Table.at}

-- once a client has left, no context and no queue is its
abbrev pub LeavesNothing : Type 0
LeavesNothing = (old new : State) (event : Event) → Step old event new → event.ask.op ≡ Leave
    → HasNothing event.lane new

-- the store began empty
abbrev pub BeganEmpty : State → Type 0
BeganEmpty start = (n : ℕ) × (start ≡ starting_at n)

-- each context acts as a caller that its own client has named, since it last left
abbrev pub ContextsAreTheirClients : State → Type 0
ContextsAreTheirClients start =
    BeganEmpty start → (events : List Event) (end : State) → IsLegal start events end
    → (number : ℕ) (c : Context) → at end.contexts number ≡ Some c → HasGreeted c.client c.caller events

-- whoever reads a key that a uid has to itself has said, since it last left, that it is that uid
abbrev pub ReadersHaveNamedThemselves : State → Type 0
ReadersHaveNamedThemselves start =
    BeganEmpty start → (uid : ℕ) (before : List Event) (old : State) (last : ℕ → Bool)
    → KeepsPrivate uid (λ k. false) start before old last
    → (reading : Event) (end : State) (serial : ℕ) → last serial ≡ true → Step old reading end
    → Reads old reading serial → (caller : Caller) × (caller.uid ≡ uid) × HasGreeted reading.lane caller before

-- an OPEN_QUEUE of the client was accepted, and gave the queue this number
pub record OpensQueue (client number : ℕ) (event : Event) : Type 0 where
  pub by : event.lane ≡ client
  pub capacity : ℕ
  pub asked : event.ask.op ≡ OpenQueue capacity
  pub gave : event.reply ≡ Ok (Number number)

-- the client opened the queue in these events, and has not left since
abbrev pub HasOpened : ℕ → ℕ → List Event → Type 0
HasOpened client number events =
    (before : List Event) × (event : Event) × (later : List Event) × (events ≡ before ++ event ∷ later)
    × OpensQueue client number event × HasStayed client later

-- each queue is of the client that opened it, since it last left
abbrev pub QueuesAreTheirClients : State → Type 0
QueuesAreTheirClients start =
    BeganEmpty start → (events : List Event) (end : State) → IsLegal start events end
    → (number : ℕ) (queue : Queue) → at end.queues number ≡ Some queue → HasOpened queue.client number events
