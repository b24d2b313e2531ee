use Rattle.std.proofs.Common.{◌-◌, ◌≡◌, drop}
use Rattle.std.specs.List.{list_any}
use Rattle.krs_keys.specs.Keys.{shown}
use Rattle.krs_walk.specs.Walks.{is_nested_within}
use Rattle.krs_walk.proofs.cycle.+is_nested_within.Given as goal

abbrev pub decreases-is_nested_within : goal.decreases-is_nested_within
decreases-is_nested_within l = l.depth

abbrev pub invariant-loop-nested : goal.invariant-loop-nested
invariant-loop-nested l =
    list_any (is_nested_within (shown l.keys.keys) l.ring (l.depth - 1)) (drop l.nested-index l.rings)
    ≡ is_nested_within (shown l.keys.keys) l.ring l.depth l.fn.key
