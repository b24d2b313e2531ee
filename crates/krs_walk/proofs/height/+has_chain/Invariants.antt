use Rattle.std.proofs.Common.{◌-◌, ◌≡◌, drop}
use Rattle.std.specs.List.{list_any}
use Rattle.krs_model.specs.Reach.{has_chain}
use Rattle.krs_keys.specs.Keys.{shown}
use Rattle.krs_walk.proofs.height.+has_chain.Given as goal

abbrev pub decreases-has_chain : goal.decreases-has_chain
decreases-has_chain l = l.count

abbrev pub invariant-loop-nested : goal.invariant-loop-nested
invariant-loop-nested l =
    list_any (λ j. has_chain (shown l.keys.keys) j (l.count - 1)) (drop l.nested-index l.rings)
    ≡ has_chain (shown l.keys.keys) l.fn.key l.count
