use Rattle.std.proofs.Common.{arith}
use Rattle.krs_walk.proofs.RoundsLemmas.{any_fails, any_passes, any_past}
use Rattle.krs_walk.proofs.possession.Sought.level_links.Goals as goal
use Rattle.std.proofs.lemmas.Grind.{common_steps}

pub loop-place-preserved : goal.loop-place-preserved
loop-place-preserved c = grind (arith, common_steps, any_fails)

pub returns-then-links_key : goal.returns-then-links_key
returns-then-links_key c = grind (arith, common_steps, any_passes)

pub returns : goal.returns
returns c = grind (arith, common_steps, any_past)
