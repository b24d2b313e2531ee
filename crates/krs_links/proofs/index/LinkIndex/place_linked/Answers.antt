use Rattle.std.proofs.Common.{arith}
use Rattle.krs_links.proofs.IndexedLemmas.{not_linked}
use Rattle.krs_links.proofs.index.LinkIndex.place_linked.Goals as goal
use Rattle.std.proofs.lemmas.Grind.{common_steps}

pub returns-clause-none : goal.returns-clause-none
returns-clause-none c = grind (arith, common_steps, not_linked)
