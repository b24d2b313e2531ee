use Rattle.krs_keys.proofs.HashedLemmas.{at_by_serial, by_serial_without}
use Rattle.krs_hold.proofs.counts.forget.Goals as goal
use Rattle.std.proofs.Common.{arith}
use Rattle.std.proofs.lemmas.Grind.{common_steps}

pub returns-clause-counts : goal.returns-clause-counts
returns-clause-counts c = grind (arith, common_steps, by_serial_without)

pub returns-clause-gone : goal.returns-clause-gone
returns-clause-gone c = grind (arith, common_steps, at_by_serial)
