use Rattle.krs_hold.proofs.Numbers.{number_seen}
use Rattle.krs_hold.proofs.holders.Holders.number.Goals as goal
use Rattle.std.proofs.Common.{arith}
use Rattle.std.proofs.lemmas.Grind.{common_steps}

pub returns : goal.returns
returns c = grind (arith, common_steps, number_seen)
