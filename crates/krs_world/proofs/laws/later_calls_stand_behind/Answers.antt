use Rattle.krs_world.proofs.Between.{real_time_between}
use Rattle.krs_world.proofs.laws.later_calls_stand_behind.Goals as goal

pub returns : goal.returns
returns c = real_time_between
