use Rattle.krs_context_asks.proofs.JoinedHolders.{find_there}
use Rattle.krs_context_asks.proofs.joining.joinable.Goals as goal
use Rattle.std.proofs.Common.{arith}
use Rattle.std.proofs.lemmas.Grind.{common_steps}

pub returns-clause-there : goal.returns-clause-there
returns-clause-there c = grind (arith, common_steps, find_there)
