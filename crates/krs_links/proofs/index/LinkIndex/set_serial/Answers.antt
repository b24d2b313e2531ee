use Rattle.krs_links.proofs.IndexedLemmas.{AllStand-set}
use Rattle.krs_links.proofs.index.LinkIndex.set_serial.Goals as goal
use Rattle.std.proofs.Common.{arith}
use Rattle.std.proofs.lemmas.Grind.{common_steps}

pub returns-clause-indexed : goal.returns-clause-indexed
returns-clause-indexed c = grind (arith, common_steps, AllStand-set)
