use Rattle.std.proofs.{Common.{◌<◌, arith, length}, lemmas.Bool.false≢true}
use borrow.Author.Tests.{true-ltb}
use Rattle.krs_world.proofs.{Answering.lane_here, KeptHistory.in_bounds}
use Rattle.krs_world.proofs.lane.is_idle.Goals as goal
use Rattle.std.proofs.lemmas.Grind.{common_steps}

pub returns-in-Empty-clause-idle : goal.returns-in-Empty-clause-idle
returns-in-Empty-clause-idle c = λ _. let x = c.in-Some.seat.now in
    let within : c.args.lane < length c.args.lanes.now = true-ltb _ _ c.in-Some.ensures.lookup.0 in
    (x, lane_here c.args.lanes.now c.args.lane x within c.in-Some.ensures.lookup.1, c.in-Empty.is)

pub returns-in_default : goal.returns-in_default
returns-in_default c = grind (arith, common_steps, lane_here, false≢true)

pub returns-in-None-clause-not : goal.returns-in-None-clause-not
returns-in-None-clause-not c = grind (arith, common_steps, in_bounds)
