use Rattle.std.proofs.Common.{◌≡◌}
use Rattle.krs_desk_tests.proofs.tests.posted.collect_late.Given as goal

abbrev pub invariant-loop : goal.invariant-loop
invariant-loop g l = l.seat.table ≡ l.initial.seat.table
