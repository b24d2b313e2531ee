use Rattle.std.proofs.Common.{arith, refl}
use Rattle.krs_keys.specs.Keys.{shown}
use Rattle.krs_walk.proofs.{DepthLemmas.no_chain, HeightLemmas.none_longer}
use Rattle.krs_walk.proofs.height.height_by_chains.Goals as goal
use Rattle.std.proofs.lemmas.Grind.{common_steps}

pub loop-height-init : goal.loop-height-init
loop-height-init c = no_chain (shown c.args.keys.now.keys) c.args.key 0 refl

pub returns-then-not-has_chain-clause-shallow : goal.returns-then-not-has_chain-clause-shallow
returns-then-not-has_chain-clause-shallow c = grind (arith, common_steps, none_longer)
