use Rattle.krs_walk.proofs.SoughtLemmas.{links_come_to, sought_link}
use Rattle.krs_walk.proofs.search.Search.judge_link.Goals as goal
use Rattle.std.proofs.Common.{arith}
use Rattle.std.proofs.lemmas.Grind.{common_steps}

pub returns-in-Some : goal.returns-in-Some
returns-in-Some c = grind (arith, common_steps, sought_link, links_come_to)

pub returns-in-None : goal.returns-in-None
returns-in-None c = grind (arith, common_steps, sought_link, links_come_to)
