use Rattle.krs_walk.proofs.ListsLemmas.{in_at}
use Rattle.krs_walk.proofs.possession.Sought.links_elsewhere.Goals as goal
use Rattle.std.proofs.Common.{arith}
use Rattle.std.proofs.lemmas.Grind.{common_steps}

pub returns-in-Some : goal.returns-in-Some
returns-in-Some c = grind (arith, common_steps, in_at)
