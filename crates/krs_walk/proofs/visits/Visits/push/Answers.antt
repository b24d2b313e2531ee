use Rattle.krs_walk.proofs.MarksLemmas.{put_new}
use Rattle.krs_walk.proofs.visits.Visits.push.Goals as goal
use Rattle.std.proofs.Common.{arith}
use Rattle.std.proofs.lemmas.Grind.{common_steps}

pub returns : goal.returns
returns c = grind (arith, common_steps, put_new)
