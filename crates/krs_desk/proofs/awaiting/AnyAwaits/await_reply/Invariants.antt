use Rattle.std.proofs.Common.{◌≡◌, ◌≢◌, None}
use Rattle.krs_desk.specs.Helping.{StillWaits}
use Rattle.krs_desk.proofs.awaiting.AnyAwaits.await_reply.Given as goal

-- what was waited for still is, on the same seat, with its call in flight
abbrev pub invariant-loop : goal.invariant-loop
invariant-loop g l = record {
  table : l.posted.seat.now.table ≡ l.desk;
  in_flight : l.posted.seat.now.part.flight ≢ None;
  waits : StillWaits l.desk l.fn.posted.seat.now l.posted.seat.now;
  seat : l.posted.seat.ghost_name ≡ l.fn.posted.seat.ghost_name;
  reply : l.posted.reply.ghost_name ≡ l.fn.posted.reply.ghost_name;
}
