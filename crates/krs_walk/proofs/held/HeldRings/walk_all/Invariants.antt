use Rattle.std.proofs.Common.{◌-◌}
use Rattle.krs_model.specs.Levels.{search_depth}
use Rattle.krs_walk.specs.Searching.{AreHeld}
use Rattle.krs_walk.proofs.held.HeldRings.walk_all.Given as goal

abbrev pub invariant-walk : goal.invariant-walk
invariant-walk l = AreHeld l.search l.self

abbrev pub decreases-walk : goal.decreases-walk
decreases-walk l = search_depth - l.self.levels
