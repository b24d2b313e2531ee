-- The only record that some bytes may begin with, by their type, subtype and number alone.
use Rattle.std.specs.Prelude.{[], ◌&&◌, ◌+◌, ◌==◌, ◌∷◌, if◌then◌else◌, length, List, nat_lt, None, Option, option_map}
use Rattle.std.specs.{Prelude.{slice_index, Some, ℕ}, Int.{from_le_bytes, w32, w64}}
use Rattle.krs_types.specs.declared.note.KeyEvent.{KeyEvent, TheVariants.{Cleared, Instantiated, Invalidated, Linked}}
use Rattle.krs_types.specs.declared.note.KeyEvent.TheVariants.{Revoked, Setattr, Unlinked, Updated}
use Rattle.krs_types.specs.declared.note.Record.{Record, TheVariants.{Key, Loss, Removal}}

-- the event of a subtype
abbrev pub event_numbered : ℕ → Option KeyEvent
event_numbered n =
    if n == 0 then Some Instantiated
    else if n == 1 then Some Updated
    else if n == 2 then Some Linked
    else if n == 3 then Some Unlinked
    else if n == 4 then Some Cleared
    else if n == 5 then Some Revoked
    else if n == 6 then Some Invalidated
    else if n == 7 then Some Setattr
    else None

-- four bytes and eight of them from a place on
abbrev pub four : List ℕ → ℕ → List ℕ
four xs i = slice_index xs i ∷ slice_index xs (i + 1) ∷ slice_index xs (i + 2) ∷ slice_index xs (i + 3) ∷ []

abbrev pub eight : List ℕ → ℕ → List ℕ
eight xs i =
    slice_index xs i ∷ slice_index xs (i + 1) ∷ slice_index xs (i + 2) ∷ slice_index xs (i + 3) ∷ four xs (i + 4)

abbrev pub guess : List ℕ → Option Record
guess xs =
    if nat_lt (length xs) 8 then None
    else if (slice_index xs 0 == 0) && (slice_index xs 3 == 1) then Some Loss
    else if nat_lt (length xs) 16 then None
    else if slice_index xs 0 == 1 then
    option_map (λ e. Key e (slice_index xs 5) (from_le_bytes w32 (four xs 8)) (from_le_bytes w32 (four xs 12)))
    (event_numbered (slice_index xs 3))
    else Some (Removal (slice_index xs 5) (from_le_bytes w64 (eight xs 8)))
