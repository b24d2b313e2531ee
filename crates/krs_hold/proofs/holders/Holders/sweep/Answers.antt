use Rattle.krs_hold.proofs.Anchoring.{anchored_sweeps}
use Rattle.krs_hold.proofs.holders.Holders.sweep.Goals as goal
use Rattle.std.proofs.Common.{arith}
use Rattle.std.proofs.lemmas.Grind.{common_steps}

pub returns-clause-swept : goal.returns-clause-swept
returns-clause-swept g c = grind (arith, common_steps, anchored_sweeps)
