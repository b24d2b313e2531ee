-- One attachment more.
use Rattle.std.specs.Prelude.{[], ◌++◌, ◌+◌, ◌-◌, ◌<◌, ◌^◌, List, None, Option, option_to_list, Some, ℕ}
use Rattle.krs_types.specs.declared.context.UidRings.{UidRings}
use Rattle.krs_model.specs.{State.State, Sweep.roots, Table.Table}
use Rattle.krs_hold.specs.Tally.{all_links, number_at, one_more, times}

-- one more may hold what it has
abbrev pub HasRoom : Table ℕ → Option ℕ → Type 0
HasRoom numbers None = Unit {0}
HasRoom numbers (Some k) = number_at numbers k < 2 ^ 64 - 1

-- how many links and attachments of a store hold a key: keyrings(7), "Anchoring keys"
abbrev pub holders_in : State → ℕ → ℕ
holders_in s serial = times serial (roots s) + times serial (all_links s.keys)

-- what it has is held once more
abbrev pub more_of : Option ℕ → Table ℕ → Table ℕ
more_of None numbers = numbers
more_of (Some k) numbers = one_more k numbers

-- the keyrings of a uid, where it has them
abbrev pub rings_of : Option UidRings → List ℕ
rings_of None = []
rings_of (Some rings) = option_to_list rings.user ++ option_to_list rings.session
