-- What the laws say of posts and reads.
use Rattle.std.specs.Prelude.{◌&&◌, ◌==◌, ◌≡◌, filter, List, map, option_map, ℕ}
use Rattle.krs_types.specs.declared.note.Record.{Record}
use Rattle.krs_model.specs.Notes.Front.{behind, front, IsLongestFront}
use Rattle.krs_model.specs.Notes.Posting.{after_notes, Note, note_for, passes_at, Post, post_all, posts_of, records_for}
use Rattle.krs_model.specs.{Queues.{Queues, Watch}, State.Queue, Table.{at, Table}}

-- the watches of a key by a queue
abbrev pub watches_between : ℕ → ℕ → List Watch → List Watch
watches_between key number watches = filter (λ w. (w.0.0 == key) && (w.0.1 == number)) watches

-- of a note a queue gets the records of its own watches of the key, where its filter passes them
abbrev pub NotesReachTheirWatchers : Type 0
NotesReachTheirWatchers =
    (s : Queues) (note : Note) (number : ℕ) →
    records_for number (posts_of s note)
    ≡ filter (passes_at (at s.queues number))
    (map (λ w. (note_for note w).1) (watches_between note.key number s.watches))

-- posts change each queue by the records that are for it, in order, and in no other way
abbrev pub PostsReachTheirQueues : Type 0
PostsReachTheirQueues =
    (posts : List Post) (queues : Table Queue) (number : ℕ) →
    at (post_all posts queues) number ≡ option_map (after_notes (records_for number posts)) (at queues number)

-- what is read is the longest front that fits the room
abbrev pub ReadsTheLongestFront : Type 0
ReadsTheLongestFront =
    (room : ℕ) (waiting : List Record) → IsLongestFront room waiting (front room waiting) (behind room waiting)
