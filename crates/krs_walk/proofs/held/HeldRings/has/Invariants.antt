use Rattle.std.proofs.Common.{◌-◌, suc}
use Rattle.krs_model.specs.Levels.{search_depth}
use Rattle.krs_walk.specs.Searching.{AreHeld}
use Rattle.krs_walk.proofs.held.HeldRings.has.Given as goal

abbrev pub invariant-walk : goal.invariant-walk
invariant-walk l = AreHeld l.search l.self

abbrev pub decreases-walk : goal.decreases-walk
decreases-walk l = suc search_depth - l.self.levels
