use Rattle.krs_desk.specs.Sitting.{IsIdleAt}
use Rattle.krs_bench.proofs.desk.ask_in_turn.Given as goal

abbrev pub invariant-tries : goal.invariant-tries
invariant-tries g l = IsIdleAt l.initial.seat.table l.seat
