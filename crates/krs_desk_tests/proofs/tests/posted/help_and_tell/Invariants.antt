use Rattle.std.proofs.Common.{◌≡◌}
use Rattle.krs_desk_tests.proofs.tests.posted.help_and_tell.Given as goal

abbrev pub invariant-loop : goal.invariant-loop
invariant-loop l = l.seat.table ≡ l.initial.seat.table
