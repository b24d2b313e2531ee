use Rattle.krs_desk.specs.Sitting.{IsIdleAt}
use Rattle.krs_bench.proofs.desk.turn_round.Given as goal

abbrev pub invariant-calls : goal.invariant-calls
invariant-calls g l = IsIdleAt l.initial.seat.table l.seat
