use Rattle.std.proofs.{Common.{option_copied}, Math.Bool.or-false}
use Rattle.krs_walk.proofs.PossessionLemmas.{absent_linked, possession_splits}
use Rattle.krs_walk.proofs.walker.Walker.possesses.Goals as goal
use Rattle.std.proofs.Common.{arith}
use Rattle.std.proofs.lemmas.Grind.{common_steps}

pub returns-in-None : goal.returns-in-None
returns-in-None c = grind (arith, common_steps, possession_splits, absent_linked, option_copied, or-false)
