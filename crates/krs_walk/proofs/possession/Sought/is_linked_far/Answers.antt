use Rattle.std.proofs.Common.{arith, sym}
use Rattle.krs_walk.proofs.EndsLemmas.{near_is_all}
use Rattle.krs_walk.proofs.possession.Sought.is_linked_far.Goals as goal
use Rattle.std.proofs.lemmas.Grind.{common_steps}

pub returns-then-ends_near : goal.returns-then-ends_near
returns-then-ends_near c = grind (arith, common_steps, near_is_all)

pub returns-then-is_hinted_far : goal.returns-then-is_hinted_far
returns-then-is_hinted_far c = sym (c.is_hinted_far.ensures c.if-is_hinted_far.true)
