use Rattle.std.proofs.Common.{◌≡◌}
use Rattle.krs_model.specs.Asks.Invalidating.{invalidated}
use Rattle.krs_ring_asks.proofs.invalidating.unlink_far.Given as goal

abbrev pub invariant-loop-holder : goal.invariant-loop-holder
invariant-loop-holder l = invalidated l.tables l.serial ≡ invalidated l.fn.tables l.serial
