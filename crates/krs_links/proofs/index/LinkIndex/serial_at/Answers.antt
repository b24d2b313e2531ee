use Rattle.std.proofs.Common.{option_map}
use Rattle.krs_links.proofs.IndexedLemmas.{serial_in}
use Rattle.krs_links.proofs.index.LinkIndex.serial_at.Goals as goal
use Rattle.std.proofs.Common.{arith}
use Rattle.std.proofs.lemmas.Grind.{common_steps}

pub returns-in-Some : goal.returns-in-Some
returns-in-Some c = grind (arith, common_steps, option_map, serial_in)

pub returns-in-None : goal.returns-in-None
returns-in-None c = grind (arith, common_steps, option_map, serial_in)
