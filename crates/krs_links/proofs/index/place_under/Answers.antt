use Rattle.krs_links.proofs.IndexedLemmas.{place_is}
use Rattle.krs_links.proofs.index.place_under.Goals as goal
use Rattle.std.proofs.Common.{arith}
use Rattle.std.proofs.lemmas.Grind.{common_steps}

pub returns-then-eq-clause-there : goal.returns-then-eq-clause-there
returns-then-eq-clause-there c = grind (arith, common_steps, place_is)
