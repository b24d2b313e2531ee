-- Who is told of what, by right: core-api/watch_queue.rst; uapi linux/keyctl.h, KEYCTL_WATCH_KEY. The form is this
-- project's own.
use Rattle.std.specs.{Prelude.{[], ◌++◌, ◌∷◌, ◌≡◌, ◌⊎◌, IsOk, List, None, Option, pos, Some, ℕ, ℤ}, List.AllByRecursion}
use Rattle.krs_types.specs.{Rights.VIEW, declared.ask.Op.{Op, TheVariants.{CloseQueue, ReadQueue, SetFilter, Watch}}}
use Rattle.krs_types.specs.declared.{event.Event.Event, note.Record.Record}
use Rattle.krs_types.specs.declared.{note.Record.TheVariants.{Key, Loss, Removal}, rights.Want.TheVariants.Granted}
use Rattle.krs_model.specs.{History.IsLegal, Orderly.Each, Receiving.called_for, Revocation.Names}
use Rattle.krs_model.specs.{State.{Queue, raised, State}, Step.Step, Table.at}
use Rattle.krs_laws.specs.{Belonging.BeganEmpty, Integrity.HasRight}
use Rattle.krs_model.specs.Queues as queues

-- the queue of this number is there, and it is the client's
pub record OwnsQueue (s : State) (client number : ℕ) : Type 0 where
  pub queue : Queue
  pub there : at s.queues number ≡ Some queue
  pub own : queue.client ≡ client

-- the queue that an ask names
abbrev pub queue_asked : Op → Option ℕ
queue_asked (Watch id queue watch_id) = Some queue
queue_asked (SetFilter queue entries) = Some queue
queue_asked (ReadQueue queue room) = Some queue
queue_asked (CloseQueue queue) = Some queue
queue_asked op = None

-- each accepted ask of a queue is of its owner: whoever reads records reads those of its own queues
abbrev pub QueuesAreTheirOwners : Type 0
QueuesAreTheirOwners =
    (old new : State) (event : Event) (number : ℕ) → Step old event new → IsOk event.reply
    → queue_asked event.ask.op ≡ Some number → OwnsQueue old event.lane number

-- these watches have this one among them
abbrev pub IsWatched : queues.Watch → List queues.Watch → Type 0
IsWatched watch [] = ⊥
IsWatched watch (w ∷ ws) = (w ≡ watch) ⊎ IsWatched watch ws

-- the ask sets the watch, with its id, at the key that it names, and may VIEW that key then; the queue is its client's
pub record IsSetBy (s : State) (client context : ℕ) (op : Op) (w : queues.Watch) : Type 0 where
  pub id : ℤ
  pub asked : op ≡ Watch id w.0.1 (pos w.1)
  pub names : Names s client context id w.0.0
  pub right : HasRight s client context (Granted VIEW) w.0.0
  pub own : OwnsQueue s client w.0.1

-- Each watch was there before the ask, at the same key and queue and with the same id; or the ask set it by right. A
-- watch stays though VIEW is taken away later, as in the kernel
abbrev pub WatchesByRight : State → Event → State → Type 0
WatchesByRight s event new =
    Each (λ w. IsWatched w s.watches ⊎ IsSetBy s event.lane event.ask.context event.ask.op w) new.watches

-- so it is of each event in each history from this state on, at the moment of the event
abbrev pub AllWatchesAreByRight : State → Type 0
AllWatchesAreByRight start =
    (before : List Event) (old : State) → IsLegal start before old
    → (event : Event) (new : State) → Step old event new → WatchesByRight (raised old event.moment) event new

-- One of these watches calls for the record: it is at this queue, and the record tells of its key, and has its id. No
-- watch calls for a loss
abbrev pub IsCalledFor : List queues.Watch → ℕ → Record → Type 0
IsCalledFor watches number (Key event id key aux) = IsWatched ((key, number), id) watches
IsCalledFor watches number (Removal id key) = IsWatched ((key, number), id) watches
IsCalledFor watches number Loss = ⊥

-- Each record that an event posts to a queue is called for by a watch that stood as the ask came. What a queue gives is
-- the stream of these records and losses (krs_model, specs/Receiving.antt), so it is of watches that were set by right.
abbrev pub AllNotesAreCalledFor : State → Type 0
AllNotesAreCalledFor start =
    (before : List Event) (old : State) → IsLegal start before old
    → (event : Event) (new : State) → Step old event new
    → (number : ℕ) → AllByRecursion (IsCalledFor old.watches number) (called_for number old event new)

-- one of these events from this state set the watch, by right
abbrev pub WasSet : State → List Event → queues.Watch → Type 0
WasSet start events w =
    (before : List Event) × (event : Event) × (later : List Event) × (events ≡ before ++ event ∷ later)
    × (old : State) × IsLegal start before old
    × IsSetBy (raised old event.moment) event.lane event.ask.context event.ask.op w

-- one of these events set the watch that the record of this queue is of
abbrev pub IsToldByRight : State → List Event → ℕ → Record → Type 0
IsToldByRight start events number (Key event id key aux) = WasSet start events ((key, number), id)
IsToldByRight start events number (Removal id key) = WasSet start events ((key, number), id)
IsToldByRight start events number Loss = ⊥

-- In each history of a store that began empty, each record that is posted to a queue is of a watch that was set in it,
-- by right: in a context that had VIEW on the key then, of the client whose queue it was
abbrev pub AllNotesAreByRight : State → Type 0
AllNotesAreByRight start =
    BeganEmpty start → (before : List Event) (old : State) → IsLegal start before old
    → (event : Event) (new : State) → Step old event new
    → (number : ℕ) → AllByRecursion (IsToldByRight start before number) (called_for number old event new)
