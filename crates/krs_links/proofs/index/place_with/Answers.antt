use Rattle.std.proofs.Common.{option_map}
use Rattle.krs_links.proofs.IndexedLemmas.{serial_in}
use Rattle.krs_links.proofs.index.place_with.Goals as goal
use Rattle.std.proofs.Common.{arith}
use Rattle.std.proofs.lemmas.Grind.{common_steps}

pub returns-then-number-clause-there : goal.returns-then-number-clause-there
returns-then-number-clause-there c = grind (arith, common_steps, serial_in, option_map)
