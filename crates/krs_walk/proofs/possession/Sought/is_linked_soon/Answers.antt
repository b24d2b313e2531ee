use Rattle.krs_walk.proofs.HintLemmas.{near_linked}
use Rattle.krs_walk.proofs.possession.Sought.is_linked_soon.Goals as goal
use Rattle.std.proofs.Common.{arith}
use Rattle.std.proofs.lemmas.Grind.{common_steps}

pub returns-then-is_linked_near : goal.returns-then-is_linked_near
returns-then-is_linked_near c = grind (arith, common_steps, near_linked)
