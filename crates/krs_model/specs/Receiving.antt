-- What a queue gives to its reader over a history: core-api/watch_queue.rst, "Watch Queue (Notification Output) API".
use Rattle.std.specs.Prelude.{[], ◌++◌, ◌∷◌, ◌≡◌, ◌⊎◌, Err, List, map, Ok, Result, Some, ℕ}
use Rattle.krs_types.specs.declared.ask.Answer.{Answer, TheVariants.{Bytes, Number}}
use Rattle.krs_types.specs.declared.ask.Op.{Op, TheVariants.{OpenQueue, ReadQueue}}
use Rattle.krs_types.specs.declared.{errno.Errno.Errno, event.Event.Event, note.Record.Record}
use Rattle.krs_model.specs.{Lists.Begins, Notes.Bytes.{AllFit, bytes_of_all}}
use Rattle.krs_model.specs.Notes.{Posting.records_for, Stream.{Move, Posted, stream, taken, Took}}
use Rattle.krs_model.specs.{State.{Key, Queue, raised, State}, Step.{posts_by, Step}, Table.{at, Table}}

-- what an ask calls for of a queue: nothing where it is refused, or found no memory
abbrev pub called : ℕ → State → ℕ → ℕ → Op → Result Answer Errno → Table Key → List Record
called q s client context op (Ok answer) keys = records_for q (posts_by s client context op answer keys)
called q s client context op (Err e) keys = []

-- the same of the step from one state to the next
abbrev pub called_for : ℕ → State → Event → State → List Record
called_for q old event new =
    called q (raised old event.moment) event.lane event.ask.context event.ask.op event.reply new.keys

-- an accepted READ_QUEUE of the queue, which gave these bytes
pub record IsRead (q : ℕ) (event : Event) (bytes : List ℕ) : Type 0 where
  pub room : ℕ
  pub asked : event.ask.op ≡ ReadQueue q room
  pub gave : event.reply ≡ Ok (Bytes bytes)

-- the records that an event's reply spells of the queue; none where it is no such read
pub record Takes (q : ℕ) (event : Event) (notes : List Record) : Type 0 where
  pub spelled : (bytes : List ℕ) → IsRead q event bytes → AllFit notes × (bytes ≡ bytes_of_all notes)
  pub nothing : ((bytes : List ℕ) → IsRead q event bytes → ⊥) → notes ≡ []

-- a legal history, and what it has called for of a queue and taken from it; what an event takes comes after what it
-- calls for
pub data HasMoves (q : ℕ) : State → List Event → List Move → State → Type 0 where
  NoMoves : (s : State) → HasMoves q s [] [] s
  FurtherMoves :
      (s next end : State) (event : Event) (events : List Event) (took : List Record) (moves : List Move)
      → Step s event next → Takes q event took → HasMoves q next events moves end
      → HasMoves q s (event ∷ events) (map Posted (called_for q s event next) ++ (map Took took ++ moves)) end

-- the event opened the queue, with that capacity
pub record IsOpening (q capacity : ℕ) (event : Event) : Type 0 where
  pub asked : event.ask.op ≡ OpenQueue capacity
  pub gave : event.reply ≡ Ok (Number q)

-- one of the events did
abbrev pub IsOpened : ℕ → ℕ → List Event → Type 0
IsOpened q capacity [] = ⊥
IsOpened q capacity (event ∷ events) = (IsOpening q capacity event) ⊎ (IsOpened q capacity events)

-- In every legal history from this state: of a queue that was opened in it and is still open, what was read, followed
-- by what waits, is the stream of the records that it called for; of any queue opened in it, what was read begins that
-- stream.
pub record GivesStreams (start : State) : Type 0 where
  pub still_open :
      (end : State) (events : List Event) (moves : List Move) (q capacity : ℕ) (queue : Queue)
      → HasMoves q start events moves end → IsOpened q capacity events → at end.queues q ≡ Some queue
      → taken moves ++ queue.waiting ≡ stream capacity moves
  pub begun :
      (end : State) (events : List Event) (moves : List Move) (q capacity : ℕ) → HasMoves q start events moves end
      → IsOpened q capacity events → Begins (taken moves) (stream capacity moves)
