use Rattle.std.proofs.Common.{◌≡◌, drop}
use Rattle.krs_model.specs.Levels.{is_in}
use Rattle.krs_walk.proofs.hints.has.Given as goal

abbrev pub invariant-loop-ring : goal.invariant-loop-ring
invariant-loop-ring l = is_in l.serial (drop l.ring-index l.rings) ≡ is_in l.serial l.rings
