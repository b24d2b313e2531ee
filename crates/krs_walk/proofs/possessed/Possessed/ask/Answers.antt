use Rattle.std.proofs.Common.{arith, flat_map}
use Rattle.krs_walk.proofs.MatchesLemmas.{are_matches}
use Rattle.krs_walk.proofs.possessed.Possessed.ask.Goals as goal
use Rattle.std.proofs.lemmas.Grind.{common_steps}

pub returns-clause-matches : goal.returns-clause-matches
returns-clause-matches c = grind (arith, common_steps, are_matches, flat_map)
