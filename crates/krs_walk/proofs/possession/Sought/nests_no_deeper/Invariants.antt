use Rattle.std.proofs.Common.{◌≡◌, drop, flat_map}
use Rattle.krs_walk.specs.Seeking.{nested}
use Rattle.krs_walk.proofs.possession.Sought.nests_no_deeper.Given as goal

abbrev pub invariant-loop-nested : goal.invariant-loop-nested
invariant-loop-nested l =
    flat_map (nested l.self) (drop l.nested-index l.rings) ≡ flat_map (nested l.self) (nested l.self l.fn.ring)
