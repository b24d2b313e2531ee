use Rattle.krs_walk.proofs.SoughtLemmas.{links_come_to, sought_link}
use Rattle.krs_walk.proofs.search.Search.judge_link_by.Goals as goal
use Rattle.std.proofs.Common.{arith}
use Rattle.std.proofs.lemmas.Grind.{common_steps}

pub returns-in-Some-clause-sought : goal.returns-in-Some-clause-sought
returns-in-Some-clause-sought c = grind (arith, common_steps, sought_link, links_come_to)

pub returns-in-None-clause-sought : goal.returns-in-None-clause-sought
returns-in-None-clause-sought c = grind (arith, common_steps, sought_link, links_come_to)
