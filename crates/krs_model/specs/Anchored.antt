-- Which keys may stay where each tells no more than what anchors it: keyrings(7), "Anchoring keys".
use Rattle.std.specs.Prelude.{◌≡◌, ◌⊎◌, Bool, IsSome, List, true, ℕ}
use Rattle.krs_model.specs.{Levels.is_in, Reach.links_of_key_at, State.Key, Table.{at, Table}}

-- attached, or linked by a key that stays
abbrev pub IsAnchored : Table Key → List ℕ → (ℕ → Bool) → ℕ → Type 0
IsAnchored keys attached kept k =
    (is_in k attached ≡ true) ⊎ ((j : ℕ) × (kept j ≡ true) × (is_in k (links_of_key_at keys j) ≡ true))

-- a closed choice of the keys that are there: each key that stays is anchored, and none that goes
pub record IsClosedChoice (keys : Table Key) (attached : List ℕ) (kept : ℕ → Bool) : Type 0 where
  pub only : (k : ℕ) → IsSome (at keys k) → kept k ≡ true → IsAnchored keys attached kept k
  pub each : (k : ℕ) → IsSome (at keys k) → IsAnchored keys attached kept k → kept k ≡ true
