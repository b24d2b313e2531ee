use Rattle.krs_desk.specs.Sitting.{IsIdleAt}
use Rattle.krs_bench.proofs.desk.count_calls.Given as goal

abbrev pub invariant-rounds : goal.invariant-rounds
invariant-rounds g l = IsIdleAt l.initial.seat.table l.seat
