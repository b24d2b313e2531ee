use Rattle.std.proofs.Common.{arith, option_copied}
use Rattle.krs_walk.proofs.PossessionLemmas.{followed_absent, followed_links, unfollowed}
use Rattle.krs_walk.proofs.possession.Sought.links_key.Goals as goal
use Rattle.std.proofs.lemmas.Grind.{common_steps}

pub returns-in-Some : goal.returns-in-Some
returns-in-Some c = grind (arith, common_steps, followed_links, option_copied)

pub returns-in_default : goal.returns-in_default
returns-in_default c = grind (arith, common_steps, unfollowed, option_copied)

pub returns-in_default-2 : goal.returns-in_default-2
returns-in_default-2 c = grind (arith, common_steps, followed_absent, option_copied)
