use Rattle.std.proofs.Common.{◌-◌, ◌≡◌, drop}
use Rattle.krs_walk.specs.Seeking.{links_within, one_links}
use Rattle.krs_walk.proofs.possession.Sought.+is_linked_within.Given as goal

abbrev pub decreases-is_linked_within : goal.decreases-is_linked_within
decreases-is_linked_within l = l.depth

abbrev pub invariant-loop-nested : goal.invariant-loop-nested
invariant-loop-nested l =
    one_links l.self (l.depth - 1) (drop l.nested-index l.rings) ≡ links_within l.self l.depth l.fn.ring
