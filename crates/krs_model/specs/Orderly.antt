-- What holds of the queues and watches of a store between asks: core-api/watch_queue.rst, "Watch List (Notification
-- Source) API".
use Rattle.std.specs.Prelude.{[], ◌<◌, ◌^◌, ◌∷◌, ◌≡◌, IsSome, List, Some, true, ℕ}
use Rattle.std.specs.declared.cmp.Ordering.TheVariants.{Less}
use Rattle.krs_model.specs.Notes.{Bytes.AllFit, Waiting.is_capacity}
use Rattle.krs_model.specs.{Queues.{place_cmp, Queues, Watch}, State.Queue, Table.{at, IsBelow, IsDistinct, Table}}

-- a statement of each watch
abbrev pub Each : (Watch → Type 0) → List Watch → Type 0
Each P [] = Unit {0}
Each P (w ∷ ws) = P w × Each P ws

-- a watch is of a queue that is there, and its numbers fit the fields of records
pub record IsWatch (queues : Table Queue) (w : Watch) : Type 0 where
  pub queue : IsSome (at queues w.0.1)
  pub key : w.0.0 < 2 ^ 32
  pub id : w.1 < 2 ^ 8

-- by rising key, then queue
abbrev pub AreRising : List Watch → Type 0
AreRising [] = Unit {0}
AreRising (w ∷ ws) = Each (λ v. place_cmp w.0 v.0 ≡ Less) ws × AreRising ws

-- a queue has a lawful capacity, and the numbers of those that wait fit their fields
pub record IsQueue (queue : Queue) : Type 0 where
  pub capacity : is_capacity queue.capacity ≡ true
  pub fit : AllFit queue.waiting

-- the queues and watches of a store between asks
pub record AreOrderly (q : Queues) : Type 0 where
  -- no queue's number is given twice: profile, queue numbers
  pub unused : IsBelow q.queues q.next_queue
  -- a number is of one queue: profile, queues by number
  pub distinct : IsDistinct q.queues
  -- a watch ends with its queue: profile, removal records
  pub watches : Each (IsWatch q.queues) q.watches
  -- a queue watches a key once, and records go out by rising key, then queue: profile, order of notes
  pub rising : AreRising q.watches
  -- profile, exact rings
  pub queues : (number : ℕ) (queue : Queue) → at q.queues number ≡ Some queue → IsQueue queue
