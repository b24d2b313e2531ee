use Rattle.std.proofs.Common.{◌∙◌, arith, sym}
use Rattle.krs_walk.specs.Searching.{searcher_for}
use Rattle.krs_walk.proofs.DescentLemmas.{depth_fails, depth_finds, depth_goes_on, depth_starts}
use Rattle.krs_walk.proofs.search.Search.find_by_levels.Goals as goal
use Rattle.std.proofs.lemmas.Grind.{common_steps}

pub loop-level-init : goal.loop-level-init
loop-level-init c = grind (arith, common_steps, depth_starts)

pub returns-in-Ok : goal.returns-in-Ok
returns-in-Ok c =
    let s = c.args.self.now in
    let l = c.loop-level in
    sym (depth_finds (searcher_for s) s.name.now c.args.head l.level l.fault c.in-Ok.serial c.requires.only l.invariant
    c.loop-level-test.true (sym c.in-Ok.is ∙ c.find_at.ensures))

pub loop-level-preserved : goal.loop-level-preserved
loop-level-preserved c =
    let s = c.args.self.now in
    let l = c.loop-level in
    depth_goes_on (searcher_for s) s.name.now c.args.head l.level l.fault _ l.invariant
    (sym c.in-Err.is ∙ c.find_at.ensures)

pub returns : goal.returns
returns c =
    let s = c.args.self.now in
    let l = c.loop-level in
    sym (depth_fails (searcher_for s) s.name.now c.args.head l.level l.fault c.requires.only l.invariant (omega arith))
