use Rattle.std.proofs.Common.{◌≡◌, true}
use Rattle.krs_model.specs.Reach.{has_chain}
use Rattle.krs_keys.specs.Keys.{shown}
use Rattle.krs_walk.proofs.height.height_by_chains.Given as goal

abbrev pub invariant-loop-height : goal.invariant-loop-height
invariant-loop-height l = has_chain (shown l.keys.keys) l.key l.height ≡ true
