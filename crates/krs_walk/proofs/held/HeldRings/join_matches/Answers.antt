use Rattle.std.proofs.Common.{arith, option_to_list}
use Rattle.krs_walk.proofs.MatchesLemmas.{matches_more}
use Rattle.krs_walk.proofs.held.HeldRings.join_matches.Goals as goal
use Rattle.std.proofs.lemmas.Grind.{common_steps}

pub loop-place-preserved : goal.loop-place-preserved
loop-place-preserved c = grind (arith, common_steps, matches_more, option_to_list)
