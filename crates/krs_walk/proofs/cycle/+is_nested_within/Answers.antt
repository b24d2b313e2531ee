use Rattle.std.proofs.Common.{◌==◌, ◌∙◌, arith, sym}
use Rattle.krs_model.specs.Reach.{nested_in}
use Rattle.krs_keys.specs.Keys.{shown}
use Rattle.krs_walk.proofs.DepthLemmas.{any_below, any_first, any_none}
use Rattle.krs_walk.proofs.cycle.+is_nested_within.Goals as goal
use Rattle.std.proofs.lemmas.Grind.{common_steps}

pub returns-then-depth-eq0 : goal.returns-then-depth-eq0
returns-then-depth-eq0 t c = grind (arith, common_steps, any_none)

pub returns-then-eq : goal.returns-then-eq
returns-then-eq t c = grind (arith, common_steps, any_first)

pub loop-nested-init : goal.loop-nested-init
loop-nested-init t c =
    any_below (λ k. k == c.args.ring) (nested_in (shown c.args.keys.now.keys)) c.args.key c.args.depth
    c.rings_of-rings.result.now c.if-depth-eq0.false (sym c.eq.ensures ∙ c.if-eq.false) c.rings_of-rings.ensures
