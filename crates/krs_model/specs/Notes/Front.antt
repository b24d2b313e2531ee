-- What a reader gets of a waiting list: the longest front whose bytes fit its room. core-api/watch_queue.rst, "Watch
-- Queue (Notification Output) API"; whole records alone: profile, whole records.
use Rattle.std.specs.Prelude.{[], ◌++◌, ◌-◌, ◌∷◌, ◌≡◌, ◌≤◌, Err, if◌then◌else◌, length, List, nat_le, Ok, Result, ℕ}
use Rattle.krs_types.specs.declared.{errno.Errno.{Errno, TheVariants.{EAGAIN, ENOBUFS}}, note.Record.Record}
use Rattle.krs_model.specs.Notes.Bytes.{bytes_of, bytes_of_all}

-- the longest front whose bytes fit the room, `IsLongestFront`, by the law a_read_takes_the_longest_front
abbrev pub front : ℕ → List Record → List Record
front room [] = []
front room (note ∷ notes) =
    if nat_le (length (bytes_of note)) room then note ∷ front (room - length (bytes_of note)) notes else []

-- what waits behind the longest front that fits the room, by the same law
abbrev pub behind : ℕ → List Record → List Record
behind room [] = []
behind room (note ∷ notes) =
    if nat_le (length (bytes_of note)) room then behind (room - length (bytes_of note)) notes else note ∷ notes

-- none waits: EAGAIN; not even the first fits: ENOBUFS. Profile, whole records
abbrev pub readable : ℕ → List Record → Result (List Record) Errno
readable room [] = Err EAGAIN
readable room (note ∷ notes) =
    if nat_le (length (bytes_of note)) room then Ok (front room (note ∷ notes)) else Err ENOBUFS

-- of a list, a front and what is behind it, where the front fits the room and no longer one does
pub record IsLongestFront (room : ℕ) (notes taken left : List Record) : Type 0 where
  pub whole : notes ≡ taken ++ left
  pub fits : length (bytes_of_all taken) ≤ room
  pub longest : (some others : List Record) → notes ≡ some ++ others → length (bytes_of_all some) ≤ room →
      length some ≤ length taken
