-- The rule of the table: the one history, read on its words, its slots and the views. The form is this project's own.
-- Words, slots and views are those of atomic_table. A word is a number that changes in single steps. A slot is a place
-- for one value. Word 0 is the turn, and slot 0 the store's. Those of a lane are at `cell_of lane`.
use Rattle.std.specs.Prelude.{◌<◌, ◌≡◌, false, length, List, None, Option, slice_index, Some, ℕ}
use lib.ListN.{get_elem?}
use mathlib.Core.Option.{none, some}
use Rattle.krs_model.specs.State.{State}
use Rattle.krs_world.specs.{History.OneHistory, Knowing.view, declared.view.{Cell.Cell, Standing.TheVariants.Opening}}
use Rattle.krs_desk.specs.Parts.{AreHoused, cell_of, IsLaid, sight, views_of}
use Rattle.krs_desk.specs.declared.slot.SlotValue.{SlotValue, TheVariants.{Asked, Empty, Home, Replied}}
use Rattle.krs_desk.specs.declared.{token.Sight.Sight, word.TheConstants.{ANSWERED, EMPTY, POSTED, SERVING, TURN}}
use Rattle.atomic_table.specs.Table as table
use Rattle.krs_world.specs.declared.view.Cell.TheVariants as cells
use mathlib.Core.Option as maybe

-- a slot of a table, by its number: none where there is no such slot, and some none while a seat has its value
abbrev pub Slot : Type 0
Slot = maybe.Option (maybe.Option SlotValue)

-- this value lies in the slot
abbrev pub Lies : SlotValue → Slot → Type 0
Lies value slot = slot ≡ some (some value)

-- the store lies in the first slot where it is at home, and else a seat has it
abbrev pub IsAtHome : Option State → Slot → Type 0
IsAtHome None slot = slot ≡ some none
IsAtHome (Some store) slot = Lies (Home store) slot

-- The word of a lane, and what lies in its slot, by its cell. The slot of an empty cell is its seat's, and that of a
-- cell that is served is the holder's.
abbrev pub CellIs : ℕ → Slot → Cell → Type 0
CellIs word slot cells.Empty = word ≡ EMPTY
CellIs word slot (cells.Posted moment ask) = (word ≡ POSTED) × Lies (Asked moment ask) slot
CellIs word slot (cells.Serving moment ask) = word ≡ SERVING
CellIs word slot (cells.Answered moment ask reply) = (word ≡ ANSWERED) × Lies (Replied reply) slot

-- the lane's cell is empty, and its slot, where there is one, lies on the table, empty too
abbrev pub IsVacant : List (maybe.Option SlotValue) → (ℕ → Cell) → ℕ → Type 0
IsVacant homes cell lane =
    (cell lane ≡ cells.Empty) × (cell_of lane < length homes → Lies Empty (get_elem? homes (cell_of lane)))

-- The first word is the turn: FREE, OUT, or DEALING while the seats are dealt. Each lane has a word for its cell, and a
-- slot. `src/word.rt` has the numbers. There is one history of all calls, and its `claim` (`Linearizes`) is the claim.
pub record InOneOrder (opening : State) (s : table.State SlotValue Sight) : Type 0 where
  pub wide : length s.words ≡ length s.homes
  pub any : 0 < length s.words
  pub home : Option State
  pub slot : IsAtHome home (get_elem? s.homes TURN)
  pub cell : ℕ → Cell
  pub cells : (lane : ℕ) → CellIs (slice_index s.words (cell_of lane)) (get_elem? s.homes (cell_of lane)) (cell lane)
  -- what a token is to pick up lies there
  pub laid : (j lane : ℕ) (v : Sight) → get_elem? s.views j ≡ some v → IsLaid lane v → IsVacant s.homes cell lane
  -- each lane that has done anything has a word of its own: no seat stands for a lane beyond the words
  pub housed : (j : ℕ) (v : Sight) → get_elem? s.views j ≡ some v → AreHoused (length s.words) v
  pub history : OneHistory opening (slice_index s.words TURN) home cell (views_of s.views)

-- what is known of the first token, which deals the others
abbrev pub first_sight : State → Sight
first_sight opening = sight (view opening (Opening 0)) false

-- all cells are empty
abbrev pub AreZero : List ℕ → Type 0
AreZero words = (lane : ℕ) → slice_index words (cell_of lane) ≡ EMPTY
