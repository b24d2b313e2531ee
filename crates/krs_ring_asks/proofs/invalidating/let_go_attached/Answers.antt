use Rattle.krs_ring_asks.proofs.Detaching.{less_attached}
use Rattle.krs_ring_asks.proofs.invalidating.let_go_attached.Goals as goal
use Rattle.std.proofs.Common.{arith}
use Rattle.std.proofs.lemmas.Grind.{common_steps}

pub returns : goal.returns
returns c = grind (arith, common_steps, less_attached)
