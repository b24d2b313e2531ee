use Rattle.std.proofs.Common.{arith}
use Rattle.krs_hold.proofs.Numbers.{number_seen, raised_chain, raised_number}
use Rattle.krs_hold.proofs.holders.Holders.hold.Goals as goal
use Rattle.std.proofs.lemmas.Grind.{common_steps}

pub raise-requires : goal.raise-requires
raise-requires c = grind (arith, common_steps, number_seen)

pub invariant_of-self : goal.invariant_of-self
invariant_of-self c = grind (arith, common_steps, raised_chain)

pub returns : goal.returns
returns c = grind (arith, common_steps, raised_number)
