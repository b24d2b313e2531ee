-- What the marks of an ask promise (`Row` of krs_types): where it isn't long it drops one key at most, and where it
-- doesn't tell it has no note. The form is this project's own.
use Rattle.std.specs.Prelude.{[], ◌≡◌, false, List, None, Some, ℕ}
use Rattle.krs_types.specs.{Rows.row_of, declared.{ask.{Answer.Answer, Op.Op}, event.Event.Event}}
use Rattle.krs_model.specs.{History.IsLegal, Notes.Telling.notes_of, State.{Key, State}, Step.Step, Table.{at, Table}}

-- a key was there, and is gone
pub record IsDropped (before after : Table Key) (serial : ℕ) : Type 0 where
  pub key : Key
  pub was : at before serial ≡ Some key
  pub gone : at after serial ≡ None

-- two keys that are dropped are one
abbrev pub DropsOneAtMost : State → State → Type 0
DropsOneAtMost old new = (j k : ℕ) → IsDropped old.keys new.keys j → IsDropped old.keys new.keys k → j ≡ k

-- in each history from this state on, an event whose ask isn't long drops one key at most, whatever its reply
abbrev pub ShortAsksDropOneAtMost : State → Type 0
ShortAsksDropOneAtMost start =
    (before : List Event) (old : State) → IsLegal start before old
    → (event : Event) (new : State) → Step old event new → (row_of event.ask.op).long ≡ false → DropsOneAtMost old new

-- an ask that doesn't tell has no note, whatever it is answered
abbrev pub QuietAsksHaveNoNote : Type 0
QuietAsksHaveNoNote =
    (s : State) (client context : ℕ) (op : Op) (answer : Answer) → (row_of op).tells ≡ false
    → notes_of s client context op answer ≡ []
