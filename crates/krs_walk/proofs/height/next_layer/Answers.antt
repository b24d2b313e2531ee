use Rattle.std.proofs.Common.{◌∙◌, ap, ℕ}
use Rattle.krs_model.specs.Reach.{nested_in}
use Rattle.krs_keys.specs.Keys.{shown}
use Rattle.krs_walk.specs.Lists.{join}
use Rattle.krs_walk.proofs.HeightLemmas.{layer_more}
use Rattle.krs_walk.proofs.height.next_layer.Goals as goal

pub loop-ring-preserved : goal.loop-ring-preserved
loop-ring-preserved c =
    let links = nested_in (shown c.args.keys.now.keys) in
    layer_more links c.as_slice-rings.result.now c.loop-ring.next c.join.new.self c.loop-ring.ring-index
    c.loop-ring-test.true c.loop-ring.invariant
    (c.in_ok-join.ensures ∙ (ap (join c.loop-ring.next) c.rings_of.ensures
    ∙ ap (λ (k : ℕ). join c.loop-ring.next (links k)) c.new.ensures))
