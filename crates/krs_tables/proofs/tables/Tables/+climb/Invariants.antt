use Rattle.std.proofs.Common.{◌-◌, ◌^◌}
use Rattle.krs_tables.proofs.OutOfReach.{AreFound, IsFar}
use Rattle.krs_tables.proofs.tables.Tables.+climb.Given as goal

abbrev pub decreases-climb : goal.decreases-climb
decreases-climb l = l.depth

-- so many keyrings were found that link the key, and each is in none of the levels before
abbrev pub invariant-linkers : goal.invariant-linkers
invariant-linkers l = AreFound l.self.keys (IsFar l.self l.context (l.depth - 1)) l.serial l.last l.found

abbrev pub decreases-linkers : goal.decreases-linkers
decreases-linkers l = 2 ^ 32 - l.last
