use Rattle.std.proofs.Common.{arith, cond}
use Rattle.krs_keys.proofs.HashedLemmas.{at_by_serial, by_serial_absent, by_serial_written}
use Rattle.krs_hold.proofs.counts.let_go.Goals as goal
use Rattle.std.proofs.lemmas.Grind.{common_steps}

pub returns-in-Some-clause-counts : goal.returns-in-Some-clause-counts
returns-in-Some-clause-counts c = grind (arith, common_steps, by_serial_written)

pub returns-in-Some-clause-first : goal.returns-in-Some-clause-first
returns-in-Some-clause-first c = grind (arith, common_steps, cond, at_by_serial)

pub returns-in-None-clause-counts : goal.returns-in-None-clause-counts
returns-in-None-clause-counts c = grind (arith, common_steps, by_serial_absent)

pub returns-in-None-clause-first : goal.returns-in-None-clause-first
returns-in-None-clause-first c = grind (arith, common_steps, cond, at_by_serial)
