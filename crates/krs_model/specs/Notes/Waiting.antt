-- The waiting list of a watch queue: core-api/watch_queue.rst, "Watch Queue (Notification Output) API".
use Rattle.std.specs.Prelude.{[], ◌&&◌, ◌++◌, ◌+◌, ◌∷◌, ◌≡◌, Bool, false, if◌then◌else◌, List, nat_le, nat_lt, ℕ}
use Rattle.krs_types.specs.declared.note.Record.{Record, TheVariants.Loss}
use Rattle.krs_model.specs.Notes.{Bytes.is_loss, Stream.{Move, Posted, room_of, Took}}

-- how many records a queue may hold: profile, exact rings
abbrev pub greatest_capacity : ℕ
greatest_capacity = 4096

-- a queue is asked for with a number of records up to that one, and holds exactly that number: profile, exact rings
abbrev pub is_capacity : ℕ → Bool
is_capacity capacity = nat_le 1 capacity && nat_le capacity greatest_capacity

-- the room that these take: how many of them are no losses
abbrev pub total_room : List Record → ℕ
total_room [] = 0
total_room (note ∷ notes) = room_of note + total_room notes

-- the last one is a loss
abbrev pub ends_with_loss : List Record → Bool
ends_with_loss [] = false
ends_with_loss (note ∷ []) = is_loss note
ends_with_loss (note ∷ next ∷ notes) = ends_with_loss (next ∷ notes)

-- a loss at the end, unless one is there: profile, loss records take no room
abbrev pub with_loss : List Record → List Record
with_loss waiting = if ends_with_loss waiting then waiting else waiting ++ Loss ∷ []

-- what waits once a record came: the record last where there is room, else a loss in its place. Profile, exact rings
abbrev pub after_post : ℕ → Record → List Record → List Record
after_post capacity note waiting =
    if nat_lt (total_room waiting) capacity then waiting ++ note ∷ [] else with_loss waiting

-- these moves lead from one waiting list to the other. A post is never of a loss, and a reader takes what waits first
abbrev pub MovesTo : ℕ → List Record → List Move → List Record → Type 0
MovesTo capacity waiting [] after = waiting ≡ after
MovesTo capacity waiting (Posted note ∷ moves) after =
    (is_loss note ≡ false) × MovesTo capacity (after_post capacity note waiting) moves after
MovesTo capacity waiting (Took note ∷ moves) after =
    (rest : List Record) × (waiting ≡ note ∷ rest) × MovesTo capacity rest moves after
