-- What an accepted ask posts, and where it goes: core-api/watch_queue.rst, "Watch Subscription API" and "Notification
-- Posting API"; uapi linux/keyctl.h, KEYCTL_WATCH_KEY; Documentation/security/keys/core.rst.
use Rattle.std.specs.Prelude.{[], ◌++◌, ◌==◌, ◌∷◌, Bool, false, filter, flat_map, is_some, List, map, None, not, Option}
use Rattle.std.specs.Prelude.{option_to_list, Some, ℕ}
use Rattle.krs_types.specs.declared.note.{KeyEvent.KeyEvent, Record.{Record, TheVariants.{Key, Removal}}}
use Rattle.krs_model.specs.Notes.{Filter.passes_if_any, Waiting.after_post}
use Rattle.krs_model.specs.{Queues.{Queues, Watch, watch_at}, State.{Queue, State}, Table.{alter, at, Table}}
use Rattle.krs_model.specs.State as state

-- what happened to a key, and the other key of a link, else 0: uapi linux/watch_queue.h, struct key_notification
pub record Note : Type 0 where
  pub event : KeyEvent
  pub key : ℕ
  pub aux : ℕ

-- a record, and the queue that it is for
abbrev pub Post : Type 0
Post = ℕ × Record

-- the watches at a key
abbrev pub watches_at : ℕ → List Watch → List Watch
watches_at key watches = filter (λ w. w.0.0 == key) watches

-- what a note is to a watch: its record has the watch's id
abbrev pub note_for : Note → Watch → Post
note_for note w = (w.0.1, Key note.event w.1 note.key note.aux)

-- what the end of a watch is to its queue: uapi linux/watch_queue.h, struct watch_notification_removal
abbrev pub removal_for : Watch → Post
removal_for w = (w.0.1, Removal w.1 w.0.0)

-- the queue is there, and its filter passes the record
abbrev pub passes_at : Option Queue → Record → Bool
passes_at None note = false
passes_at (Some queue) note = passes_if_any queue.filter note

-- a note goes to the queues that watch its key and whose filter passes its record, by rising number
abbrev pub posts_of : Queues → Note → List Post
posts_of s note = filter (λ p. passes_at (at s.queues p.0) p.1) (map (note_for note) (watches_at note.key s.watches))

-- what an ask posts: its notes in order, by the watches and filters of the state before it, then a removal record for
-- each watch that it ended, by rising key, then queue, whatever the filter: profile, order of notes
abbrev pub posts : Queues → List Note → List Watch → List Post
posts s notes ended = flat_map (posts_of s) notes ++ map removal_for ended

-- the watch at a key and a queue, where there is one: WATCH with -1 ends it
abbrev pub watch_there : List Watch → ℕ → ℕ → List Watch
watch_there watches key number = map (λ id. ((key, number), id)) (option_to_list (watch_at watches key number))

-- the watches that end as their keys are dropped: profile, removal records
abbrev pub dropped_watches : Table state.Key → List Watch → List Watch
dropped_watches keys watches = filter (λ w. not (is_some (at keys w.0.0))) watches

-- the queue once a record came
abbrev pub after_note : Record → Queue → Queue
after_note note queue = record queue { waiting = after_post queue.capacity note queue.waiting }

-- the queue once these came, one after the other
abbrev pub after_notes : List Record → Queue → Queue
after_notes [] queue = queue
after_notes (note ∷ notes) queue = after_notes notes (after_note note queue)

-- the queues once these came, one after the other
abbrev pub post_all : List Post → Table Queue → Table Queue
post_all [] queues = queues
post_all (p ∷ ps) queues = post_all ps (alter queues p.0 (after_note p.1))

-- the same of the queues and their watches
abbrev pub posted : List Post → Queues → Queues
posted ps s = record s { queues = post_all ps s.queues }

-- the same of a store
abbrev pub posted_in : List Post → State → State
posted_in ps s = record s { queues = post_all ps s.queues }

-- the records that are for a queue, in order
abbrev pub records_for : ℕ → List Post → List Record
records_for number ps = map (λ p. p.1) (filter (λ p. p.0 == number) ps)
