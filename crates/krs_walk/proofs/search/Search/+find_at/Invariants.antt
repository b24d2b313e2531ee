use Rattle.std.proofs.Common.{◌-◌, ◌≡◌, drop, flat_map}
use Rattle.krs_walk.specs.Searching.{links_below, sought_behind}
use Rattle.krs_walk.proofs.search.Search.+find_at.Given as goal

abbrev pub decreases-find_at : goal.decreases-find_at
decreases-find_at l = l.depth

abbrev pub invariant-loop-nested : goal.invariant-loop-nested
invariant-loop-nested l =
    sought_behind l.self l.fault (flat_map (links_below l.self (l.depth - 1)) (drop l.nested-index l.rings))
    ≡ sought_behind l.self l.fn.fault (links_below l.self l.depth l.fn.ring)
