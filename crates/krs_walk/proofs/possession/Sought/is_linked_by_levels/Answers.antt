use Rattle.krs_walk.proofs.DepthLemmas.{any_heads}
use Rattle.krs_walk.proofs.possession.Sought.is_linked_by_levels.Goals as goal
use Rattle.std.proofs.Common.{arith}
use Rattle.std.proofs.lemmas.Grind.{common_steps}

pub returns-in-Err : goal.returns-in-Err
returns-in-Err c = grind (arith, common_steps, any_heads)
