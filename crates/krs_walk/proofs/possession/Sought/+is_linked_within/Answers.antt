use Rattle.std.proofs.Common.{◌∙◌, arith, sym}
use Rattle.krs_walk.specs.Seeking.{links_it, nested}
use Rattle.krs_walk.proofs.DepthLemmas.{any_below, any_first, any_none}
use Rattle.krs_walk.proofs.possession.Sought.+is_linked_within.Goals as goal
use Rattle.std.proofs.lemmas.Grind.{common_steps}

pub returns-then-depth-eq0 : goal.returns-then-depth-eq0
returns-then-depth-eq0 t c = grind (arith, common_steps, any_none)

pub returns-then-linked : goal.returns-then-linked
returns-then-linked t c = grind (arith, common_steps, any_first)

pub loop-nested-init : goal.loop-nested-init
loop-nested-init t c =
    let s = c.args.self.now in
    any_below (links_it s) (nested s) c.args.ring c.args.depth c.look_into-linked.result.1.now c.if-depth-eq0.false
    (sym c.look_into-linked.ensures.linked ∙ c.if-linked.false) c.look_into-linked.ensures.rings
