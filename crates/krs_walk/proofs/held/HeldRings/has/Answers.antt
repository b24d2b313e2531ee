use Rattle.std.proofs.Common.{arith}
use Rattle.krs_walk.proofs.{HeldLemmas.{held_possessed, not_possessed}, PossessionLemmas.head_possessed}
use Rattle.krs_walk.proofs.held.HeldRings.has.Goals as goal
use Rattle.std.proofs.lemmas.Grind.{common_steps}

pub returns-then-self-gt-SEARCH_DEPTH-clause-has : goal.returns-then-self-gt-SEARCH_DEPTH-clause-has
returns-then-self-gt-SEARCH_DEPTH-clause-has c = grind (arith, common_steps, not_possessed)

pub returns-clause-has : goal.returns-clause-has
returns-clause-has c = grind (arith, common_steps, held_possessed)

pub returns-then-is_attached-clause-has : goal.returns-then-is_attached-clause-has
returns-then-is_attached-clause-has c = grind (arith, common_steps, head_possessed)
