use Rattle.krs_walk.proofs.{MatchesLemmas.linked_held, PossessionLemmas.head_possessed}
use Rattle.krs_walk.proofs.possessed.Possessed.has.Goals as goal
use Rattle.std.proofs.Common.{arith}
use Rattle.std.proofs.lemmas.Grind.{common_steps}

pub returns-then-is_attached-clause-has : goal.returns-then-is_attached-clause-has
returns-then-is_attached-clause-has c = grind (arith, common_steps, head_possessed)

pub returns-in-Some-clause-has : goal.returns-in-Some-clause-has
returns-in-Some-clause-has c = grind (arith, common_steps, linked_held)

pub returns-clause-has : goal.returns-clause-has
returns-clause-has c = grind (arith, common_steps, linked_held)
