-- That what may happen to a table (specs/Running.antt) is what atomic_table makes of the steps of `src/board.rt`. The
-- tables that a step, a split and a join lead to have here the forms that its specs/Table.antt has: `stepped` in
-- `Allows`, and the records in `Splits` and `Joins`. Each step on a word tells `Moves` (`moved_told`, `stored_told`).
-- That threads make such steps alone, one at a time, is atomic_table's own (its README.md, "The parts" and
-- "What is proved").
use Rattle.std.specs.Prelude.{[], ◌++◌, ◌<◌, ◌==◌, ◌∷◌, ◌≡◌, ◌⊎◌, length, None, slice_index, slice_set, Some, ℕ}
use Rattle.atomic_table.specs.Table.{Act, carried_after, step, stepped}
use lib.ListN.{get_elem?}
use mathlib.Core.Option.{none, some}
use prog.Atomic.{either}
use Rattle.krs_model.specs.State.{starting_at, State}
use Rattle.krs_desk.specs.Moves.{Moves}
use Rattle.krs_desk.specs.Parts.{AreOnes, both_sights, given_sight, IsSpentFor, kept_sight, settled_sight, spent}
use Rattle.krs_desk.specs.{Rule.InOneOrder, Running.{Board, IsCut, IsJoined, IsStepped}, Steps.Known}
use Rattle.krs_desk.specs.declared.{slot.SlotValue.SlotValue, token.Sight.Sight}

-- the rule holds, and this token may step on this word
abbrev pub IsAt : State → Board → ℕ → ℕ → Known → ℕ → Type 0
IsAt opening s slots id m word =
    InOneOrder opening s × (length s.homes ≡ slots) × (word < slots) × (get_elem? s.views id ≡ some m.0)

-- `Board::load`
abbrev pub LoadsHappen : State → Type 0
LoadsHappen opening =
    (s : Board) (slots id word : ℕ) (m : Known) (w : Sight) (act : Act SlotValue)
    → IsAt opening s slots id m word
    → Moves (step slots word 0 0 none) (Some (slice_index s.words word)) m (w, carried_after m.1 act)
    → IsStepped s (stepped s word (slice_index s.words word) id m.1 w act)

-- `Board::store`
abbrev pub StoresHappen : State → Type 0
StoresHappen opening =
    (s : Board) (slots id word new : ℕ) (m : Known) (w : Sight) (act : Act SlotValue)
    → IsAt opening s slots id m word
    → Moves (step slots word new 0 none) None m (w, carried_after m.1 act)
    → IsStepped s (stepped s word new id m.1 w act)

-- `Board::compare_exchange`
abbrev pub ExchangesHappen : State → Type 0
ExchangesHappen opening =
    (s : Board) (slots id word old new : ℕ) (m : Known) (w : Sight) (act : Act SlotValue)
    → IsAt opening s slots id m word
    → Moves (step slots word old new none) (Some (slice_index s.words word)) m (w, carried_after m.1 act)
    → IsStepped s
    (stepped s word (either (slice_index s.words word == old) new (slice_index s.words word)) id m.1 w act)

-- `Board::split_seat`
abbrev pub SplitsHappen : Type 0
SplitsHappen =
    (s : Board) (id : ℕ) (v : Sight) → get_elem? s.views id ≡ some v
    → IsCut s record {
      words = s.words;
      homes = s.homes;
      views = slice_set s.views id (kept_sight v) ++ given_sight v ∷ [];
    }

-- `Board::join_seat` and `settle_seat`
abbrev pub JoinsHappen : Type 0
JoinsHappen =
    (s : Board) (id other : ℕ) (v w both : Sight)
    → (AreOnes v w × (both ≡ both_sights v w)) ⊎ (IsSpentFor v w × (both ≡ settled_sight v w))
    → get_elem? s.views id ≡ some v → ¬ (other ≡ id) → get_elem? (slice_set s.views id both) other ≡ some w
    → IsJoined s record {
      words = s.words;
      homes = s.homes;
      views = slice_set (slice_set s.views id both) other (spent (starting_at 3));
    }

-- each step of the table is one that may happen
abbrev pub StepsHappen : State → Type 0
StepsHappen opening =
    LoadsHappen opening × StoresHappen opening × ExchangesHappen opening × SplitsHappen × JoinsHappen
