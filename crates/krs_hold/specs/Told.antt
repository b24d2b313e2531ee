-- Which watched keys a sweep says that it dropped.
use Rattle.std.specs.Prelude.{◌&&◌, ◌^◌, Bool, nat_lt, None, Option, Some, true, ℕ}
use Rattle.std.specs.{BTreeSet.{BTreeSet, contains}, Ordering.nat_cmp}

-- a key is listed; where there is no list, any may be one of them
abbrev pub lists : Option (BTreeSet ℕ) → ℕ → Bool
lists None k = true
lists (Some serials) k = contains nat_cmp serials k

-- the key of a serial is listed
abbrev pub tells : Option (BTreeSet ℕ) → ℕ → Bool
tells told k = nat_lt k (2 ^ 32) && lists told k
