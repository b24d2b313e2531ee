use Rattle.std.proofs.Common.{◌∙◌, arith, Result, subst, sym, ℕ}
use Rattle.krs_types.specs.declared.errno.Errno.{Errno}
use Rattle.krs_walk.specs.Searching.{entered_rings, Joins, searcher_for}
use Rattle.krs_walk.proofs.VisitingLemmas.{visit_goes_on, visited}
use Rattle.krs_walk.proofs.search.Search.visit_level.Goals as goal

pub returns-in-Ok-clause-sought : goal.returns-in-Ok-clause-sought
returns-in-Ok-clause-sought c =
    let s = c.args.self.now in
    let l = c.loop-place in
    visited (searcher_for s) s.name.now c.args.seen.now l.seen c.args.start l.place c.at-here.result c.args.fault
    l.fault _ l.invariant.visit
    (omega (arith, c.len-end.ensures.is)) c.at-here.ensures (sym c.in-Ok.is ∙ c.in_ok-serial.ensures.sought)

pub loop-place-preserved : goal.loop-place-preserved
loop-place-preserved c =
    let s = c.args.self.now in
    let l = c.loop-place in
    record {
      held = c.in_ok-serial.ensures.held;
      visit = visit_goes_on (searcher_for s) s.name.now c.args.seen.now l.seen c.visit.new.seen c.args.start l.place
          c.at-here.result c.args.fault l.fault c.in-Err.more l.invariant.visit
          (omega (arith, c.len-end.ensures.is)) c.at-here.ensures (sym c.in-Err.is ∙ c.in_ok-serial.ensures.sought)
          (subst (λ (r : Result ℕ Errno). Joins r l.seen (entered_rings (searcher_for s) c.at-here.result)
          c.visit.new.seen) c.in-Err.is c.in_ok-serial.ensures.joined);
    }
