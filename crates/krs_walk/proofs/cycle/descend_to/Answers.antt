use Rattle.krs_walk.proofs.CycleLemmas.{shown_length, within_closes, within_reaches}
use Rattle.krs_walk.proofs.cycle.descend_to.Goals as goal
use Rattle.std.proofs.Common.{arith}
use Rattle.std.proofs.lemmas.Grind.{common_steps}

pub returns-clause-closes : goal.returns-clause-closes
returns-clause-closes c = grind (arith, common_steps, shown_length, within_closes)

pub returns-clause-reached : goal.returns-clause-reached
returns-clause-reached c = grind (arith, common_steps, shown_length, within_reaches)
