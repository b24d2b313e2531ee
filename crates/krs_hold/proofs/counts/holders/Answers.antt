use Rattle.krs_keys.proofs.HashedLemmas.{at_by_serial}
use Rattle.krs_hold.proofs.counts.holders.Goals as goal
use Rattle.std.proofs.Common.{arith}
use Rattle.std.proofs.lemmas.Grind.{common_steps}

pub returns-in-Some : goal.returns-in-Some
returns-in-Some c = grind (arith, common_steps, at_by_serial)

pub returns-in-None : goal.returns-in-None
returns-in-None c = grind (arith, common_steps, at_by_serial)
