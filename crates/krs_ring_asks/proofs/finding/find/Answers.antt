use Rattle.krs_walk.proofs.FindingLemmas.{found_is}
use Rattle.krs_ring_asks.proofs.finding.find.Goals as goal
use Rattle.std.proofs.Common.{arith}
use Rattle.std.proofs.lemmas.Grind.{common_steps}

pub returns : goal.returns
returns c = grind (arith, common_steps, found_is)
