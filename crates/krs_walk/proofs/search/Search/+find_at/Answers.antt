use Rattle.std.proofs.{Common.{◌-◌, ◌∙◌, ap, sym}, lemmas.Grind.get_or_default_zero}
use Rattle.krs_walk.specs.Searching.{links_at, searcher_for, sought_behind}
use Rattle.krs_walk.proofs.{DescentLemmas.{links_deep, links_here}, VisitingLemmas.turn_goes_on}
use Rattle.krs_walk.proofs.search.Search.+find_at.Goals as goal
use Rattle.std.proofs.Common.{arith}
use Rattle.std.proofs.lemmas.Grind.{common_steps}

pub returns-then-depth-eq0 : goal.returns-then-depth-eq0
returns-then-depth-eq0 t c = grind (arith, common_steps, links_here)

pub loop-nested-init : goal.loop-nested-init
loop-nested-init t c =
    let s = c.args.self.now in
    ap (sought_behind s c.args.fault)
    (links_deep (searcher_for s) c.args.ring c.args.depth c.rings_entered-rings.result.now c.if-depth-eq0.false
    c.rings_entered-rings.ensures)

pub returns-in-Ok : goal.returns-in-Ok
returns-in-Ok t c =
    let s = c.args.self.now in
    let l = c.loop-nested in
    turn_goes_on (searcher_for s) s.name.now (links_at (searcher_for s) (c.args.depth - 1))
    c.rings_entered-rings.result.now l.nested-index c.nested-item.result l.fault _ _ c.loop-nested-test.true
    (c.nested-item.is ∙ get_or_default_zero c.rings_entered-rings.result.now l.nested-index c.nested-item.result
    c.loop-nested-test.true)
    l.invariant (sym c.in-Ok.is ∙ c.find_at.ensures)

pub loop-nested-preserved : goal.loop-nested-preserved
loop-nested-preserved t c =
    let s = c.args.self.now in
    let l = c.loop-nested in
    turn_goes_on (searcher_for s) s.name.now (links_at (searcher_for s) (c.args.depth - 1))
    c.rings_entered-rings.result.now l.nested-index c.nested-item.result l.fault _ _ c.loop-nested-test.true
    (c.nested-item.is ∙ get_or_default_zero c.rings_entered-rings.result.now l.nested-index c.nested-item.result
    c.loop-nested-test.true)
    l.invariant (sym c.in-Err.is ∙ c.find_at.ensures)
