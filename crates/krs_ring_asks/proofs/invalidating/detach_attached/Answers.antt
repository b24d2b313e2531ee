use Rattle.krs_ring_asks.proofs.Detaching.{unattached_once, unattached_told}
use Rattle.krs_ring_asks.proofs.invalidating.detach_attached.Goals as goal
use Rattle.std.proofs.Common.{arith}
use Rattle.std.proofs.lemmas.Grind.{common_steps}

pub invariant_of-tables : goal.invariant_of-tables
invariant_of-tables c = grind (arith, common_steps, unattached_told)

pub returns : goal.returns
returns c = grind (arith, common_steps, unattached_told, unattached_once)
