use Rattle.std.proofs.Common.{◌≡◌}
use Rattle.krs_wire.proofs.feed.take_in.Given as goal

abbrev pub invariant-tries : goal.invariant-tries
invariant-tries g l = l.left.items ≡ l.initial.left.items
