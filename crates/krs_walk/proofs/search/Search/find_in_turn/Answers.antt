use Rattle.std.proofs.Common.{arith, option_to_list}
use Rattle.krs_walk.proofs.FindingLemmas.{found_in_turn}
use Rattle.krs_walk.proofs.search.Search.find_in_turn.Goals as goal
use Rattle.std.proofs.lemmas.Grind.{common_steps}

pub returns : goal.returns
returns c = grind (arith, common_steps, found_in_turn, option_to_list)
