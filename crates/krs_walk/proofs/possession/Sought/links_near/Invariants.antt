use Rattle.std.proofs.Common.{◌≡◌, drop}
use Rattle.std.specs.List.{list_any}
use Rattle.krs_walk.specs.Seeking.{links_it, links_within}
use Rattle.krs_walk.proofs.possession.Sought.links_near.Given as goal

abbrev pub invariant-loop-nested : goal.invariant-loop-nested
invariant-loop-nested l =
    list_any (links_it l.self) (drop l.nested-index l.rings) ≡ links_within l.self 2 l.fn.ring
