-- OPEN_QUEUE, SET_FILTER, READ_QUEUE, CLOSE_QUEUE and WATCH: core-api/watch_queue.rst;
-- uapi linux/keyctl.h, KEYCTL_WATCH_KEY; Documentation/security/keys/core.rst.
use Rattle.std.specs.Prelude.{[], ◌+◌, ◌==◌, Err, filter, if◌then◌else◌, is_some, length, List, nat_le, nat_lt, negsuc}
use Rattle.std.specs.{Prelude.{None, not, Ok, Option, pos, Result, Some, suc, zero, ℕ, ℤ}, List.list_any}
use Rattle.krs_types.specs.Refusing.{◌>>=◌, or_refuse}
use Rattle.krs_types.specs.{Rights.VIEW, declared.ask.Answer.TheVariants.{Bytes, Nothing, Number}}
use Rattle.krs_types.specs.declared.errno.Errno.{Errno, TheVariants.{EBADSLT, EBUSY, EINVAL, ENFILE, ENOSPC}}
use Rattle.krs_types.specs.declared.{note.FilterEntry.FilterEntry, rights.Want.TheVariants.Granted}
use Rattle.krs_model.specs.{Asks.Linked.unless, Lookup.{context_of, look_up}, Notes.Bytes.bytes_of_all}
use Rattle.krs_model.specs.Notes.{Filter.filter_of, Front.{behind, readable}, Waiting.is_capacity}
use Rattle.krs_model.specs.{Outcome.Outcome, Queues.{queue_of, Queues, queues_of, queues_without, Watch, watch_at}}
use Rattle.krs_model.specs.Queues.{with_queues, with_watch, without_watch}
use Rattle.krs_model.specs.{State.{Queue, State}, Table.{alter, put, Table, without}}

-- what an ask makes of the queues and watches, and what it gives; or the refusal that comes first
abbrev pub Change : Type 0 → Type 0
Change A = Result (Queues × A) Errno

-- a new queue, with no filter, that holds that many records
abbrev pub new_queue : ℕ → ℕ → Queue
new_queue client capacity = record { client = client; capacity = capacity; filter = None; waiting = [] }

-- the next number is the new queue's
abbrev pub with_queue : Queues → ℕ → ℕ → Queues
with_queue s client capacity =
    record s { queues = put s.queues s.next_queue (new_queue client capacity); next_queue = s.next_queue + 1 }

-- a queue of a lawful capacity, where fewer than 256 are open and a number is left: profile, queue numbers
unfoldable pub opened : Queues → ℕ → ℕ → Change ℕ
opened s client capacity = do
  held ← unless (not (is_capacity capacity)) EINVAL
  free ← unless (nat_le 256 (length s.queues)) ENFILE
  left ← unless (nat_lt 4294967295 s.next_queue) ENOSPC
  Ok (with_queue s client capacity, s.next_queue)

-- the queue with this filter
abbrev pub with_filter : List FilterEntry → Queue → Queue
with_filter entries queue = record queue { filter = Some entries }

-- another filter for a queue, in the place of the one that it had: core-api/watch_queue.rst, "Event Filtering";
-- profile, filters are replaced
unfoldable pub filtered : Queues → ℕ → ℕ → List FilterEntry → Change (Unit {0})
filtered s client number entries = do
  queue ← queue_of s.queues client number
  good ← filter_of entries
  Ok (record s { queues = alter s.queues number (with_filter good) }, tt)

-- the queue without the front that fits this room
abbrev pub after_read : ℕ → Queue → Queue
after_read room queue = record queue { waiting = behind room queue.waiting }

-- the longest front that fits the room is taken, and its bytes are given
unfoldable pub read_out : Queues → ℕ → ℕ → ℕ → Change (List ℕ)
read_out s client number room = do
  queue ← queue_of s.queues client number
  notes ← readable room queue.waiting
  Ok (record s { queues = alter s.queues number (after_read room) }, bytes_of_all notes)

-- without a queue and its watches, which end without records: profile, removal records
abbrev pub without_queue : Queues → ℕ → Queues
without_queue s number =
    record s { queues = without s.queues number; watches = filter (λ w. not (w.0.1 == number)) s.watches }

-- the client's queue and its watches are gone, without records: profile, removal records
unfoldable pub closed : Queues → ℕ → ℕ → Change (Unit {0})
closed s client number = do
  queue ← queue_of s.queues client number
  Ok (without_queue s number, tt)

-- the watches whose queue is there
abbrev pub watches_of : Table Queue → List Watch → List Watch
watches_of queues watches = filter (λ w. list_any (λ e. e.0 == w.0.1) queues) watches

-- without the queues of a client, and their watches, which end without records
abbrev pub without_client : Queues → ℕ → Queues
without_client s client =
    let queues = queues_without client s.queues in
    record s { queues = queues; watches = watches_of queues s.watches }

-- a watch of a key is set; a queue watches a key once, else EBUSY:
-- uapi linux/keyctl.h, KEYCTL_WATCH_KEY; Documentation/security/keys/core.rst
unfoldable pub watched : Queues → ℕ → ℕ → ℕ → ℕ → Change (Unit {0})
watched s client number key id = do
  queue ← queue_of s.queues client number
  free ← unless (is_some (watch_at s.watches key number)) EBUSY
  Ok (record s { watches = with_watch s.watches key number id }, tt)

-- the end of a watch, whose id is given, else EBADSLT:
-- uapi linux/keyctl.h, KEYCTL_WATCH_KEY; Documentation/security/keys/core.rst
unfoldable pub unwatched : Queues → ℕ → ℕ → ℕ → Change ℕ
unwatched s client number key = do
  queue ← queue_of s.queues client number
  id ← or_refuse EBADSLT (watch_at s.watches key number)
  Ok (record s { watches = without_watch s.watches key number }, id)

-- 0 to 255 is a watch's id, and -1 ends a watch:
-- uapi linux/keyctl.h, KEYCTL_WATCH_KEY; Documentation/security/keys/core.rst
abbrev pub watch_id_of : ℤ → Result (Option ℕ) Errno
watch_id_of (pos n) = if nat_le n 255 then Ok (Some n) else Err EINVAL
watch_id_of (negsuc zero) = Ok None
watch_id_of (negsuc (suc n)) = Err EINVAL

-- a watch set, or ended
abbrev pub with_watching : Queues → ℕ → ℕ → ℕ → Option ℕ → Result Queues Errno
with_watching s client number key (Some id) = do
  set ← watched s client number key id
  Ok set.0
with_watching s client number key None = do
  ended ← unwatched s client number key
  Ok ended.0

-- OPEN_QUEUE: a queue for the client, of which the number is given. Profile, queue numbers; profile, exact rings
unfoldable pub open_queue : State → ℕ → ℕ → Outcome
open_queue s client capacity = do
  made ← opened (queues_of s) client capacity
  Ok (with_queues s made.0, Number made.1)

-- SET_FILTER: another filter for the client's queue. Profile, filters are replaced
unfoldable pub set_filter : State → ℕ → ℕ → List FilterEntry → Outcome
set_filter s client number entries = do
  set ← filtered (queues_of s) client number entries
  Ok (with_queues s set.0, Nothing)

-- READ_QUEUE: from the front of the client's queue, the whole records that fit the room are given as bytes, and taken.
-- Profile, whole records
unfoldable pub read_queue : State → ℕ → ℕ → ℕ → Outcome
read_queue s client number room = do
  taken ← read_out (queues_of s) client number room
  Ok (with_queues s taken.0, Bytes taken.1)

-- CLOSE_QUEUE: the end of the client's queue and of its watches. Profile, removal records
unfoldable pub close_queue : State → ℕ → ℕ → Outcome
close_queue s client number = do
  left ← closed (queues_of s) client number
  Ok (with_queues s left.0, Nothing)

-- WATCH: a watch is set at a key that grants VIEW, or ended:
-- uapi linux/keyctl.h, KEYCTL_WATCH_KEY; Documentation/security/keys/core.rst
unfoldable pub watch : State → ℕ → ℕ → ℤ → ℕ → ℤ → Outcome
watch s client context id number watch_id = do
  c ← context_of s client context
  asked ← watch_id_of watch_id
  found ← look_up s c id (Granted VIEW)
  queues ← with_watching (queues_of s) client number found.0 asked
  Ok (with_queues s queues, Nothing)
