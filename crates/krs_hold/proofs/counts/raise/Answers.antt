use Rattle.std.proofs.Common.{arith}
use Rattle.krs_keys.proofs.HashedLemmas.{at_by_serial, by_serial_absent, by_serial_written}
use Rattle.krs_hold.proofs.counts.raise.Goals as goal
use Rattle.std.proofs.lemmas.Grind.{common_steps}

pub overflow_add-count : goal.overflow_add-count
overflow_add-count c = grind (arith, common_steps, at_by_serial)

pub returns-in-Some : goal.returns-in-Some
returns-in-Some c = grind (arith, common_steps, by_serial_written)

pub returns-in-None : goal.returns-in-None
returns-in-None c = grind (arith, common_steps, by_serial_absent)
