use Rattle.std.proofs.Common.{◌-◌, ◌^◌}
use Rattle.krs_model.specs.Reach.{nested_in}
use Rattle.krs_keys.specs.Keys.{shown}
use Rattle.krs_walk.proofs.CycleLemmas.{IsWalk}
use Rattle.krs_walk.proofs.cycle.walk_to.Given as goal

abbrev pub invariant-walk : goal.invariant-walk
invariant-walk l = IsWalk (nested_in (shown l.keys.keys)) l.fn.key l.ring l.place l.seen

abbrev pub decreases-walk : goal.decreases-walk
decreases-walk l = 2 ^ 63 - l.place
