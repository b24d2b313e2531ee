-- Which keys of a table stay: keyrings(7), "Anchoring keys"; profile, dropped at once.
use Rattle.std.specs.Prelude.{◌≡◌, Bool, filter, List, true, ℕ}
use Rattle.krs_model.specs.{Anchored.IsClosedChoice, Sweep.PicksHeld, Table.{at, Table}}
use Rattle.krs_keys.specs.{Keys.shown, declared.key.Key.Key}

-- just the held keys stay
pub record Sweeps (attached : List ℕ) (old new : Table Key) : Type 0 where
  pub kept : ℕ → Bool
  pub picks : PicksHeld (shown old) attached kept
  pub keys : new ≡ filter (λ e. kept e.0) old

-- each key that stays is anchored by an attachment or by a key that stays, and none that goes
pub record KeepsAnchored (attached : List ℕ) (old new : Table Key) : Type 0 where
  pub kept : ℕ → Bool
  pub choice : IsClosedChoice (shown old) attached kept
  pub keys : new ≡ filter (λ e. kept e.0) old

-- each key of a set stays as it was
abbrev pub KeepsAll : (ℕ → Bool) → Table Key → Table Key → Type 0
KeepsAll has old new = (serial : ℕ) → has serial ≡ true → at new serial ≡ at old serial
