use Rattle.std.proofs.Common.{[], ◌≡◌, flat_map, take}
use Rattle.krs_model.specs.Reach.{nested_in}
use Rattle.krs_keys.specs.Keys.{shown}
use Rattle.krs_walk.specs.Lists.{join}
use Rattle.krs_walk.proofs.height.next_layer.Given as goal

abbrev pub invariant-loop-ring : goal.invariant-loop-ring
invariant-loop-ring l = l.next ≡ join [] (flat_map (nested_in (shown l.keys.keys)) (take l.ring-index l.rings))
