use Rattle.std.proofs.Common.{option_map}
use Rattle.krs_links.proofs.IndexedLemmas.{AllStand-removed, linked_in-removed, serial_in}
use Rattle.krs_links.proofs.index.LinkIndex.remove.Goals as goal
use Rattle.std.proofs.Common.{arith}
use Rattle.std.proofs.lemmas.Grind.{common_steps}

pub returns-in-Some-clause-indexed : goal.returns-in-Some-clause-indexed
returns-in-Some-clause-indexed c = grind (arith, common_steps, AllStand-removed)

pub returns-in-Some-clause-removed : goal.returns-in-Some-clause-removed
returns-in-Some-clause-removed c = grind (arith, common_steps, option_map, serial_in)

pub returns-in-None-clause-removed : goal.returns-in-None-clause-removed
returns-in-None-clause-removed c = grind (arith, common_steps, option_map, serial_in)

pub returns-in-Some-clause-links : goal.returns-in-Some-clause-links
returns-in-Some-clause-links c = grind (arith, common_steps, linked_in-removed)

pub returns-in-None-clause-indexed : goal.returns-in-None-clause-indexed
returns-in-None-clause-indexed c = grind (arith, common_steps, AllStand-removed)

pub returns-in-None-clause-links : goal.returns-in-None-clause-links
returns-in-None-clause-links c = grind (arith, common_steps, linked_in-removed)
