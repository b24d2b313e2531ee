use Rattle.std.proofs.Common.{◌≡◌, ◌≤◌}
use Rattle.krs_desk.specs.Helping.{Goes}
use Rattle.krs_desk.proofs.desk.Desk.look_at_lanes.Given as goal

abbrev pub invariant-loop-lane : goal.invariant-loop-lane
invariant-loop-lane l = record {
  table : l.token.table_id ≡ l.initial.token.table_id;
  few : l.answered ≤ l.lane;
  gone : Goes l.initial.token.me l.answered l.lane l.token.me;
}
