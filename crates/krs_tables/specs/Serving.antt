-- The parts of a step, as the store takes them one after the other; the form is this project's own. No part of a step's
-- meaning: by the lemma serves_in_turn, where `Tells` and then `SweepsOut` lead to a state, so does `Serves`.
use Rattle.std.specs.Prelude.{◌≡◌, Err, map, Ok, Result, ℕ}
use Rattle.krs_types.specs.declared.{ask.{Answer.Answer, Op.Op}, fault.Fault.Fault}
use Rattle.krs_model.specs.Notes.Posting.{dropped_watches, posted_in, posts, removal_for}
use Rattle.krs_model.specs.Notes.Telling.{ended_by, notes_of}
use Rattle.krs_model.specs.{Outcome.Fails, Queues.queues_of, State.State, Step.outcome_of, Sweep.IsSweep}

-- an accepted ask has its effect; its notes are posted, and a removal record of the watch that it ended
pub record Tells (s : State) (client context : ℕ) (op : Op) (answer : Answer) (told : State) : Type 0 where
  pub mid : State
  pub meant : outcome_of s client context op ≡ Ok (mid, answer)
  pub posted :
      told ≡ posted_in (posts (queues_of s) (notes_of s client context op answer) (ended_by s client context op)) mid

-- from s, this result and this new state are what an ask comes to and tells; a fault leaves the state as it was
abbrev pub LeadsTold : State → ℕ → ℕ → Op → Result Answer Fault → State → Type 0
LeadsTold s client context op (Ok answer) new = Tells s client context op answer new
LeadsTold s client context op (Err e) new = Fails e (outcome_of s client context op) × (new ≡ s)

-- the sweep; removal records are posted of the watches whose keys it drops
pub record SweepsOut (told new : State) : Type 0 where
  pub swept : State
  pub sweep : IsSweep told swept
  pub posted : new ≡ posted_in (map removal_for (dropped_watches swept.keys told.watches)) swept
