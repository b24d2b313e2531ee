use Rattle.krs_hold.proofs.Numbers.{gone_chain, gone_number}
use Rattle.krs_hold.proofs.holders.Holders.let_go.Goals as goal
use Rattle.std.proofs.Common.{arith}
use Rattle.std.proofs.lemmas.Grind.{common_steps}

pub invariant_of-self : goal.invariant_of-self
invariant_of-self c = grind (arith, common_steps, gone_chain)

pub returns : goal.returns
returns c = grind (arith, common_steps, gone_number)
