-- What an accepted ask has done: an ask of keys leaves queues and watches, and the asks of queues leave the rest.
use Rattle.std.proofs.Common.{[], ◌∷◌, ◌≡◌, ◌≤◌, arith, Bool, false, IsSome, List, None, Ok, Option, Some}
use Rattle.std.proofs.{Common.{true, ℕ, ℤ}, lemmas.Bool.Decides.nat_tests}
use Rattle.krs_types.specs.declared.ask.{Answer.{Answer, TheVariants.{Bytes, Nothing, Number}}, Op.Op}
use Rattle.krs_types.specs.declared.ask.Op.TheVariants.{CloseQueue, Leave, OpenQueue, ReadQueue, SetFilter, Watch}
use Rattle.krs_types.specs.declared.{errno.Errno.TheVariants.EBADF, note.{FilterEntry.FilterEntry, Record.Record}}
use Rattle.krs_types.specs.Refusing.{◌>>=◌, or_refuse}
use Rattle.krs_model.specs.Asks.{Leaving.left, Watching.{after_read, unwatched, watch_id_of, with_filter, with_queue}}
use Rattle.krs_model.specs.{Asks.Watching.without_queue, Notes.{Bytes.bytes_of_all, Front.{front, readable}}}
use Rattle.krs_model.specs.{Notes.{Telling.{ended_by, named}, Waiting.is_capacity}, Queues.{if_own_queue, queue_of}}
use Rattle.krs_model.specs.{Queues.{Queues, queues_of, watch_at, with_queues, with_watch, without_watch}, State.Queue}
use Rattle.krs_model.specs.{State.State, Table.{alter, at, Table}}
use Rattle.krs_model.proofs.{Asks.Later.{bind_ok, Comes, same_ok}, Lookups.Serials.refused_is}
use Rattle.std.proofs.lemmas.Grind.{common_steps}

-- the queues with these in their place
abbrev pub with_table : State → Table Queue → State
with_table s queues = with_queues s (record (queues_of s) { queues = queues })

abbrev pub with_watches : State → List ((ℕ × ℕ) × ℕ) → State
with_watches s watches = with_queues s (record (queues_of s) { watches = watches })

-- an ask that may change queues or watches itself
abbrev pub is_of_queues : Op → Bool
is_of_queues (Watch id queue watch_id) = true
is_of_queues (OpenQueue capacity) = true
is_of_queues (SetFilter queue entries) = true
is_of_queues (ReadQueue queue room) = true
is_of_queues (CloseQueue queue) = true
is_of_queues Leave = true
is_of_queues op = false

-- what an accepted ask has done
pub data Effect (s : State) (client context : ℕ) : Op → State → Answer → Type 0 where
  OfKeys :
      (op : Op) (new : State) (answer : Answer) → is_of_queues op ≡ false → Comes s new
      → ended_by s client context op ≡ [] → Effect s client context op new answer
  Opens :
      (capacity : ℕ) → is_capacity capacity ≡ true
      → Effect s client context (OpenQueue capacity)
      (with_queues s (with_queue (queues_of s) client capacity)) (Number s.next_queue)
  Filters :
      (number : ℕ) (entries : List FilterEntry) (queue : Queue) → at s.queues number ≡ Some queue
      → Effect s client context (SetFilter number entries)
      (with_table s (alter s.queues number (with_filter entries))) Nothing
  Reads :
      (number room : ℕ) (queue : Queue) → at s.queues number ≡ Some queue
      → Effect s client context (ReadQueue number room) (with_table s (alter s.queues number (after_read room)))
      (Bytes (bytes_of_all (front room queue.waiting)))
  Closes :
      (number : ℕ) (queue : Queue) → at s.queues number ≡ Some queue
      → Effect s client context (CloseQueue number) (with_queues s (without_queue (queues_of s) number)) Nothing
  Watches :
      (id watch_id : ℤ) (number key n : ℕ) (queue : Queue) → IsSome (at s.keys key) → at s.queues number ≡ Some queue
      → watch_id_of watch_id ≡ Ok (Some n) → n ≤ 255
      → Effect s client context (Watch id number watch_id) (with_watches s (with_watch s.watches key number n)) Nothing
  Unwatches :
      (id watch_id : ℤ) (number key n : ℕ) (queue : Queue) → IsSome (at s.keys key)
      → named s client context id ≡ Ok key
      → at s.queues number ≡ Some queue → watch_id_of watch_id ≡ Ok None → watch_at s.watches key number ≡ Some n
      → Effect s client context (Watch id number watch_id) (with_watches s (without_watch s.watches key number))
      Nothing
  Leaves : Effect s client context Leave (left s client) Nothing

-- the client's queue is there
owned_is :
    (client : ℕ) (o : Option Queue) (queue : Queue) → (or_refuse EBADF o >>= if_own_queue client) ≡ Ok queue
    → o ≡ Some queue
owned_is client None queue h = cc
owned_is client (Some q) queue h = grind (arith, nat_tests)

pub queue_there :
    (queues : Table Queue) (client number : ℕ) (queue : Queue) → queue_of queues client number ≡ Ok queue
    → at queues number ≡ Some queue
queue_there queues client number queue h = owned_is client (at queues number) queue h

pub readable_is :
    (room : ℕ) (waiting notes : List Record) → readable room waiting ≡ Ok notes → front room waiting ≡ notes
readable_is room [] notes h = cc
readable_is room (note ∷ waiting) notes h = grind (arith, nat_tests)

pub unwatched_is :
    (q : Queues) (client number key : ℕ) (x : Queues × ℕ) → unwatched q client number key ≡ Ok x
    → (queue : Queue) × (at q.queues number ≡ Some queue) × (watch_at q.watches key number ≡ Some x.1)
    × (record q { watches = without_watch q.watches key number } ≡ x.0)
unfolding unwatched
unwatched_is q client number key x h = grind (arith, nat_tests, bind_ok, same_ok, refused_is, queue_there)

abbrev pub end_of : State → Answer → State × Answer
end_of new answer = (new, answer)

-- the same end of an ask, told by its parts
pub ends_as :
    (s : State) (client context : ℕ) (op : Op) (mid new : State) (told answer : Answer)
    → Effect s client context op mid told → end_of mid told ≡ end_of new answer → Effect s client context op new answer
ends_as s client context op mid new told answer effect same = grind (arith, common_steps)
