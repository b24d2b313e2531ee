use Rattle.std.proofs.Common.{◌≡◌}
use Rattle.krs_desk.proofs.Calls.{found_taken}
use Rattle.krs_desk.proofs.desk.Desk.call_again.Given as goal

abbrev pub invariant-loop-tries : goal.invariant-loop-tries
invariant-loop-tries g l = record {
  asks : l.ask ≡ l.fn.ask;
  taker : l.taker ≡ l.fn.taker;
  seat : l.seat ≡ found_taken l.fn.seat l.seat.part.found;
}
