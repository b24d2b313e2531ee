use Rattle.krs_world.proofs.Replays.{none_held}
use Rattle.krs_world.proofs.replay.pass_refused.Goals as goal

pub returns : goal.returns
returns c = none_held _ _ _ _ _ _ c.apply.ensures.step
