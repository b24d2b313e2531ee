-- The places of serials, as contracts see them.
use Rattle.std.specs.{Prelude.{List, nat_eq, Option, ℕ}, Map.lookup}

-- each serial with its place, in no order that matters, and how many more take no memory
pub record Listed : Type 0 where
  pub entries : List (ℕ × ℕ)
  pub spare : ℕ

-- the place of a serial
abbrev pub place_of : List (ℕ × ℕ) → ℕ → Option ℕ
place_of places serial = lookup (nat_eq serial) places
