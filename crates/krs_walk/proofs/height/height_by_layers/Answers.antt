use Rattle.std.proofs.Common.{[], ◌+◌, ◌∙◌, ◌∷◌, arith, sym}
use Rattle.krs_model.specs.Reach.{nested_in, nesting_depth}
use Rattle.krs_keys.specs.Keys.{shown}
use Rattle.krs_walk.proofs.HeightLemmas.{layer_chain, layer_ends, layer_next, layer_starts, none_longer}
use Rattle.krs_walk.proofs.height.height_by_layers.Goals as goal
use Rattle.std.proofs.lemmas.Grind.{common_steps}

pub loop-height-init : goal.loop-height-init
loop-height-init c = grind (arith, common_steps, layer_starts)

pub returns-then-is_empty-clause-height : goal.returns-then-is_empty-clause-height
returns-then-is_empty-clause-height c = grind (arith, common_steps, layer_next, layer_chain, layer_ends)

pub loop-height-preserved : goal.loop-height-preserved
loop-height-preserved c = grind (arith, common_steps, layer_next)

pub returns-clause-error : goal.returns-clause-error
returns-clause-error c = grind (arith, common_steps, layer_chain)

pub returns-then-is_empty-clause-shallow : goal.returns-then-is_empty-clause-shallow
returns-then-is_empty-clause-shallow c =
    let keys = shown c.args.keys.now.keys in
    let l = c.loop-height in
    let next =
    layer_next (nested_in keys) (c.args.key ∷ []) l.height l.layer c.next_layer.new.next l.invariant.layer
    c.in_ok-next_layer.ensures in
    none_longer keys c.args.key (l.height + 1) nesting_depth (omega arith)
    (layer_ends keys c.args.key (l.height + 1) c.next_layer.new.next next
    (sym c.is_empty.ensures ∙ c.if-is_empty.true))
