use Rattle.std.proofs.Common.{[], ◌+◌, ◌∙◌, ap, arith, drop, flat_map, Result, subst, sym, ℕ}
use Rattle.krs_types.specs.declared.errno.Errno.{Errno}
use Rattle.krs_walk.specs.{Lists.join, Searching.{entered_rings, Joins, searcher_for}}
use Rattle.krs_walk.proofs.FindingLemmas.{IsSeek, seek_fails, seek_finds, seek_goes_on, seek_starts}
use Rattle.krs_walk.proofs.search.Search.walk_below.Goals as goal

pub loop-level-init : goal.loop-level-init
loop-level-init c =
    let s = c.args.self.now in
    record {
      held = c.requires.held;
      seek = seek_starts (searcher_for s) s.name.now c.args.head c.join.new.self c.requires.passed.0 c.args.fault
          c.requires.passed.1.0 c.requires.passed.1.1
          (c.in_ok-join.ensures ∙ (ap (λ zs. join zs c.args.rings.now) c.requires.seen
          ∙ ap (join []) c.requires.rings));
    }

pub returns-in-Ok : goal.returns-in-Ok
returns-in-Ok c =
    let s = c.args.self.now in
    let l = c.loop-level in
    sym (seek_finds (searcher_for s) s.name.now c.args.head l.level l.start l.seen l.fault c.in-Ok.found
    c.requires.only l.invariant.seek c.loop-level-test.true
    (sym c.in-Ok.is ∙ c.in_ok-found.ensures.sought))

pub loop-level-preserved : goal.loop-level-preserved
loop-level-preserved c =
    let s = c.args.self.now in
    let l = c.loop-level in
    let linked = flat_map (entered_rings (searcher_for s)) (drop l.start l.seen) in
    record {
      held = c.in_ok-found.ensures.held;
      seek = subst (λ (end : ℕ). IsSeek (searcher_for s) s.name.now c.args.head (l.level + 1) end
          c.visit_level.new.seen c.in-Err.more) (sym c.len-end.ensures.is)
          (seek_goes_on (searcher_for s) s.name.now c.args.head l.level l.start l.seen c.visit_level.new.seen l.fault
          c.in-Err.more l.invariant.seek
          (sym c.in-Err.is ∙ c.in_ok-found.ensures.sought)
          (subst (λ (r : Result ℕ Errno). Joins r l.seen linked c.visit_level.new.seen) c.in-Err.is
          c.in_ok-found.ensures.joined));
    }

pub returns : goal.returns
returns c =
    let s = c.args.self.now in
    let l = c.loop-level in
    sym (seek_fails (searcher_for s) s.name.now c.args.head l.level l.start l.seen l.fault c.requires.only
    l.invariant.seek (omega arith))
