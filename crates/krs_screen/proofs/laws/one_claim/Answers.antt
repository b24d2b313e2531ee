use Rattle.krs_screen.proofs.Claiming.{claims}
use Rattle.krs_screen.proofs.laws.one_claim.Goals as goal
use Rattle.std.proofs.Common.{arith}
use Rattle.std.proofs.lemmas.Grind.{common_steps}

pub returns : goal.returns
returns c = grind (arith, common_steps, claims)
