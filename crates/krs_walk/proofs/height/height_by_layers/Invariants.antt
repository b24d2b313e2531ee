use Rattle.std.proofs.Common.{[], ◌==◌, ◌∷◌, ◌≡◌, false, length}
use Rattle.krs_model.specs.Reach.{nested_in}
use Rattle.krs_keys.specs.Keys.{shown}
use Rattle.krs_walk.proofs.HeightLemmas.{IsLayer}
use Rattle.krs_walk.proofs.height.height_by_layers.Given as goal

abbrev pub invariant-loop-height : goal.invariant-loop-height
invariant-loop-height l = record {
  some : (length l.layer == 0) ≡ false;
  layer : IsLayer (nested_in (shown l.keys.keys)) (l.fn.key ∷ []) l.height l.layer;
}
