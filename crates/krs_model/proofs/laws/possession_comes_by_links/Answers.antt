use Rattle.std.proofs.Common.{arith, suc}
use Rattle.krs_model.specs.{Levels.search_depth, Possession.{attached, followed_in, possessed}}
use Rattle.krs_model.proofs.Reach.Levels.{in_level, levels_linked, of_level}
use Rattle.krs_model.proofs.laws.possession_comes_by_links.Goals as goal
use Rattle.std.proofs.lemmas.Grind.{common_steps}

pub returns-clause-links : goal.returns-clause-links
unfolding possessed
returns-clause-links c = λ s x k h. levels_linked (followed_in s x) (attached s x) (suc search_depth) k h

pub returns-clause-levels : goal.returns-clause-levels
unfolding possessed
returns-clause-levels c = grind (arith, common_steps, in_level, of_level)
