use Rattle.krs_desk.specs.Sitting.{IsIdleAt}
use Rattle.krs_desk_tests.proofs.tests.desk.add_hundred.Given as goal

abbrev pub invariant-loop-n : goal.invariant-loop-n
invariant-loop-n g l = IsIdleAt l.initial.seat.table l.seat
