use Rattle.krs_walk.proofs.PossessionLemmas.{attached_possessed, linked_possessed}
use Rattle.krs_walk.proofs.walker.Walker.possesses_soon.Goals as goal
use Rattle.std.proofs.Common.{arith}
use Rattle.std.proofs.lemmas.Grind.{common_steps}

pub returns-then-is_attached : goal.returns-then-is_attached
returns-then-is_attached c = grind (arith, common_steps, attached_possessed)

pub returns : goal.returns
returns c = grind (arith, common_steps, linked_possessed)
