-- Hints: where a serial's place may be read without looking into the index.
use Rattle.std.specs.Prelude.{◌-◌, ◌<◌, ◌≡◌, ◌≢◌, ◌⊎◌, bit_and, length, List, slice_get, Some, ℕ}
use Rattle.krs_keys.specs.{Listed.place_of, declared.places.Hint.Hint}

-- where the hint of a serial stands among so many
unfoldable pub spot : ℕ → ℕ → ℕ
spot count serial = bit_and serial (count - 1)

-- what stands there is the serial's own; 0 has none
pub record IsHint (hints : List Hint) (serial : ℕ) (hint : Hint) : Type 0 where
  pub some : 0 < serial
  pub there : slice_get hints (spot (length hints) serial) ≡ Some hint
  pub own : hint.serial ≡ serial

-- a hint says that the serial has this place
abbrev pub IsHinted : List Hint → ℕ → ℕ → Type 0
IsHinted hints serial place = (hint : Hint) × IsHint hints serial hint × (hint.place ≡ place)

-- each hint is right
abbrev pub AreHints : List Hint → List (ℕ × ℕ) → Type 0
AreHints hints places = (serial : ℕ) (hint : Hint) → IsHint hints serial hint → place_of places serial ≡ Some hint.place

-- the hints are those of before, and at most one that this serial has this place
abbrev pub Notes : List Hint → List Hint → ℕ → ℕ → Type 0
Notes old new serial place =
    (q : ℕ) (hint : Hint) → IsHint new q hint → IsHint old q hint ⊎ ((q ≡ serial) × (hint.place ≡ place))

-- the hints are some of those before, and none is of this serial
abbrev pub Forgets : List Hint → List Hint → ℕ → Type 0
Forgets old new serial = (q : ℕ) (hint : Hint) → IsHint new q hint → (q ≢ serial) × IsHint old q hint
