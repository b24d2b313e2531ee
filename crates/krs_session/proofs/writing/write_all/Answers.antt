use Rattle.std.proofs.Common.{[], ◌∙◌, ◌≡◌, arith, List, refl, rules, subst, sym, take, ℕ}
use Rattle.krs_session.proofs.JoinLemmas.{Taken, taken_more, taken_part}
use Rattle.krs_session.proofs.writing.write_all.Goals as goal

pub returns-in-Err-clause-err : goal.returns-in-Err-clause-err
returns-in-Err-clause-err g c =
    taken_part g.W.Sink.took g.met.W.Sink.joins _ _ _ _ c.left.left.now [] c.left.invariant.so_far
    (c.left.left.now, refl) c.in-Err.ensures.none

pub returns-then-n-eq0-clause-err : goal.returns-then-n-eq0-clause-err
returns-then-n-eq0-clause-err g c =
    let zero-is : c.in-Ok.n ≡ 0 = search rules in
    let none =
    subst (λ (k : ℕ). g.W.Sink.took c.left.writer (take k c.left.left.now) c.write.new.self) zero-is
    c.in-Ok.ensures.took in
    taken_part g.W.Sink.took g.met.W.Sink.joins _ _ _ _ c.left.left.now [] c.left.invariant.so_far
    (c.left.left.now, refl) none

pub left-preserved : goal.left-preserved
left-preserved g c = record {
  so_far = subst (λ (x : List ℕ). Taken g.W.Sink.took c.args.writer.now c.write.new.self c.args.bytes.now x)
      (sym c.split_at.ensures.back) (taken_more g.W.Sink.took g.met.W.Sink.joins _ _ _ _ _ c.in-Ok.n
      c.left.invariant.so_far c.in-Ok.ensures.took);
  same = c.in-Ok.ensures.good (omega arith) ∙ c.left.invariant.same;
}
