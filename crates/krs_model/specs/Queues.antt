-- The queues of a store and what they watch: core-api/watch_queue.rst, "Watch List (Notification Source) API".
use Rattle.std.specs.Prelude.{[], ◌==◌, Err, filter, if◌then◌else◌, List, not, Ok, Option, Result, ℕ}
use Rattle.std.specs.BTreeMap.{insert_entry, is_at}
use Rattle.std.specs.{Map.{lookup, remove_entry}, Ordering.{nat_cmp, ordering_then}, declared.cmp.Ordering.Ordering}
use Rattle.krs_types.specs.{Refusing.{◌>>=◌, or_refuse}, declared.errno.Errno.{Errno, TheVariants.EBADF}}
use Rattle.krs_model.specs.{State.{Queue, State}, Table.{at, Table}}

-- a watch is at a key and a queue, and has an id
abbrev pub Watch : Type 0
Watch = (ℕ × ℕ) × ℕ

-- the queues, the watches by rising key, then queue, and the number that the next queue gets
pub record Queues : Type 0 where
  pub queues : Table Queue
  pub watches : List Watch
  pub next_queue : ℕ

-- nothing is open, and numbers begin at 1: profile, queue numbers
abbrev pub no_queues : Queues
no_queues = record { queues = []; watches = []; next_queue = 1 }

-- those of a store
abbrev pub queues_of : State → Queues
queues_of s = record { queues = s.queues; watches = s.watches; next_queue = s.next_queue }

-- a store with these
abbrev pub with_queues : State → Queues → State
with_queues s q = record s { queues = q.queues; watches = q.watches; next_queue = q.next_queue }

-- the queue is the client's
abbrev pub if_own_queue : ℕ → Queue → Result Queue Errno
if_own_queue client queue = if queue.client == client then Ok queue else Err EBADF

-- the client's queue of that number: uapi linux/keyctl.h, KEYCTL_WATCH_KEY; Documentation/security/keys/core.rst;
-- profile, queues by number
abbrev pub queue_of : Table Queue → ℕ → ℕ → Result Queue Errno
queue_of queues client number = do
  queue ← or_refuse EBADF (at queues number)
  if_own_queue client queue

-- the queues of the other clients
abbrev pub queues_without : ℕ → Table Queue → Table Queue
queues_without client es = filter (λ e. not (e.1.client == client)) es

-- by key, then by queue
abbrev pub place_cmp : ℕ × ℕ → ℕ × ℕ → Ordering
place_cmp a b = ordering_then (nat_cmp a.0 b.0) (nat_cmp a.1 b.1)

-- the id of the watch at a key and a queue
abbrev pub watch_at : List Watch → ℕ → ℕ → Option ℕ
watch_at watches key number = lookup (is_at (place_cmp (key, number))) watches

-- with a watch there
abbrev pub with_watch : List Watch → ℕ → ℕ → ℕ → List Watch
with_watch watches key number id = insert_entry place_cmp watches (key, number) id

-- without the watch there
abbrev pub without_watch : List Watch → ℕ → ℕ → List Watch
without_watch watches key number = remove_entry (is_at (place_cmp (key, number))) watches
