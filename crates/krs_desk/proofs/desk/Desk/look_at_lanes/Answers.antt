use Rattle.std.proofs.Common.{rules}
use Rattle.krs_desk.proofs.Helps.{goes_at}
use Rattle.krs_desk.proofs.desk.Desk.look_at_lanes.Goals as goal

pub loop-lane-preserved : goal.loop-lane-preserved
loop-lane-preserved c = record {
  table = search rules;
  few = search rules;
  gone = goes_at c.args.token.now.me c.loop-lane.token.me c.look_at_lane-answered.new.token.me c.loop-lane.answered
      c.look_at_lane-answered.result c.loop-lane.lane c.loop-lane.invariant.gone c.look_at_lane-answered.ensures.looked;
}
