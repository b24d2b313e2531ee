use Rattle.krs_walk.proofs.DepthLemmas.{any_near}
use Rattle.krs_walk.proofs.possession.Sought.links_near.Goals as goal
use Rattle.std.proofs.Common.{arith}
use Rattle.std.proofs.lemmas.Grind.{common_steps}

pub returns-then-linked : goal.returns-then-linked
returns-then-linked c = grind (arith, common_steps, any_near)

pub loop-nested-init : goal.loop-nested-init
loop-nested-init c = grind (arith, common_steps, any_near)
