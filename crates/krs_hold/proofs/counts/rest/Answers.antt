use Rattle.krs_keys.proofs.HashedLemmas.{at_by_serial, by_serial_absent, by_serial_written}
use Rattle.krs_hold.proofs.counts.rest.Goals as goal
use Rattle.std.proofs.Common.{arith}
use Rattle.std.proofs.lemmas.Grind.{common_steps}

pub returns-in-Some-clause-counts : goal.returns-in-Some-clause-counts
returns-in-Some-clause-counts c = grind (arith, common_steps, by_serial_written)

pub returns-in-Some-clause-next : goal.returns-in-Some-clause-next
returns-in-Some-clause-next c = grind (arith, common_steps, at_by_serial)

pub returns-in-None-clause-counts : goal.returns-in-None-clause-counts
returns-in-None-clause-counts c = grind (arith, common_steps, by_serial_absent)

pub returns-in-None-clause-next : goal.returns-in-None-clause-next
returns-in-None-clause-next c = grind (arith, common_steps, at_by_serial)
