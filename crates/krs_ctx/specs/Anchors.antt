-- What anchors keys: contexts, processes and uids. keyrings(7), "Anchoring keys".
use Rattle.std.specs.Prelude.{[], ◌∷◌, ◌≡◌, ◌≤◌, IsSome, List, Option, true, ℕ}
use Rattle.krs_types.specs.declared.context.{Context.Context, UidRings.UidRings}
use Rattle.krs_model.specs.{Asks.Leaving.{has_process, has_uid}, State.State, Table.{at, IsBelow, Table}}

-- contexts, processes and uids by number, and the number that the next context gets
pub record Anchors : Type 0 where
  pub contexts : Table Context
  pub processes : Table (Option ℕ)
  pub uids : Table UidRings
  pub next_context : ℕ

-- the store with these anchors, whatever else it has
abbrev pub anchored : State → Anchors → State
anchored s t = record s {
  contexts = t.contexts;
  processes = t.processes;
  uids = t.uids;
  next_context = t.next_context;
}

-- the anchors of a store
abbrev pub anchors_of : State → Anchors
anchors_of s = record { contexts = s.contexts; processes = s.processes; uids = s.uids; next_context = s.next_context }

-- P holds of each
abbrev pub Each : {X : Type 0} → (X → Type 0) → List X → Type 0
Each P [] = Unit {0}
Each P (x ∷ xs) = P x × Each P xs

-- the context's process is there, and was made with a context of no greater number
abbrev pub IsEntered : Table (Option ℕ) → ℕ × Context → Type 0
IsEntered processes e = IsSome (at processes e.1.process) × (e.1.process ≤ e.0)

-- the contexts of a process are of one uid: clone(2)
abbrev pub HasOwners : Table Context → Type 0
HasOwners contexts = (owner : ℕ → ℕ) × Each (λ e. e.1.caller.uid ≡ owner e.1.process) contexts

-- what is true of all anchors
pub record IsFit (t : Anchors) : Type 0 where
  -- numbers not given yet are in no use: profile, context numbers
  pub contexts : IsBelow t.contexts t.next_context
  pub processes : IsBelow t.processes t.next_context
  -- each context is in a process: process-keyring(7)
  pub entered : Each (IsEntered t.processes) t.contexts
  -- THREAD makes a context of the same caller
  pub owners : HasOwners t.contexts

-- no process and no uid is without a context: process-keyring(7), user-keyring(7)
pub record IsWhole (t : Anchors) : Type 0 where
  pub processes : Each (λ e. has_process t.contexts e.0 ≡ true) t.processes
  pub uids : Each (λ e. has_uid t.contexts e.0 ≡ true) t.uids
