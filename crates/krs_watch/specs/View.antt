-- Which queues and watches of the definitions stand for those of the code.
use Rattle.krs_model.specs.{Queues.Queues, State.Queue}
use Rattle.krs_watch.specs.Watched.{AreQueued}
use Rattle.krs_watch.specs.declared.queue.NoteQueue.TheInside as queue
use Rattle.krs_watch.specs.declared.queues.WatchQueues.TheInside as queues

abbrev pub queue_of : queue.Inside → Queue
queue_of q = record { client = q.client; capacity = q.ring.capacity; filter = q.filter; waiting = q.ring.waiting }

abbrev pub queues_of : queues.Inside → Queues
queues_of s = record { queues = s.queues.entries; watches = s.watches; next_queue = s.next_queue }

-- a watch ends with its queue: profile, removal records
abbrev pub AreQueuedInside : queues.Inside → Type 0
AreQueuedInside s = AreQueued s.queues.entries s.watches
