use Rattle.std.proofs.Common.{arith, option_map}
use Rattle.krs_context_asks.proofs.JoinedHolders.{join_finds, join_makes, session_own}
use Rattle.krs_context_asks.proofs.joining.join.Goals as goal
use Rattle.std.proofs.lemmas.Grind.{common_steps}

pub join_found-requires-clause-own : goal.join_found-requires-clause-own
join_found-requires-clause-own c = grind (arith, common_steps, session_own)

pub join_new-requires-clause-own : goal.join_new-requires-clause-own
join_new-requires-clause-own c = grind (arith, common_steps, session_own)

pub returns-in-Some : goal.returns-in-Some
returns-in-Some c = grind (arith, common_steps, option_map, join_finds)

pub returns-in_ok-key-in-None : goal.returns-in_ok-key-in-None
returns-in_ok-key-in-None c = grind (arith, common_steps, option_map, join_makes)
