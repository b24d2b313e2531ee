use Rattle.krs_links.proofs.IndexedLemmas.{set_is, unset_is}
use Rattle.krs_links.proofs.index.set_serial.Goals as goal
use Rattle.std.proofs.Common.{arith}
use Rattle.std.proofs.lemmas.Grind.{common_steps}

pub returns-in-Some : goal.returns-in-Some
returns-in-Some c = grind (arith, common_steps, set_is)

pub returns-in-None : goal.returns-in-None
returns-in-None c = grind (arith, common_steps, unset_is)
