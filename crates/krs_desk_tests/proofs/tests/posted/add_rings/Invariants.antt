use Rattle.krs_desk.specs.Sitting.{IsIdleAt}
use Rattle.krs_desk_tests.proofs.tests.posted.add_rings.Given as goal

abbrev pub invariant-calls : goal.invariant-calls
invariant-calls g l = IsIdleAt l.initial.seat.table l.seat
