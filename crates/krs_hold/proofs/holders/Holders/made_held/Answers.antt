use Rattle.std.proofs.Common.{arith, is_some}
use Rattle.krs_keys.proofs.HashedLemmas.{at_by_serial, by_serial_put}
use Rattle.krs_hold.proofs.Numbers.{chain_held, number_held, number_there}
use Rattle.krs_hold.proofs.holders.Holders.made_held.Goals as goal
use Rattle.std.proofs.lemmas.Grind.{common_steps}

pub hold_again-requires : goal.hold_again-requires
hold_again-requires c = grind (arith, common_steps, is_some, at_by_serial, number_there)

pub invariant_of-self-2 : goal.invariant_of-self-2
invariant_of-self-2 c = grind (arith, common_steps, is_some, at_by_serial, chain_held, by_serial_put)

pub returns-clause-ok : goal.returns-clause-ok
returns-clause-ok c = grind (arith, common_steps, is_some, at_by_serial, number_held, by_serial_put)
