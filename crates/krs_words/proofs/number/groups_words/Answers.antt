use Rattle.std.proofs.Common.{sym, take_all}
use Rattle.krs_words.specs.Number.{u32_of}
use Rattle.krs_words.proofs.EachLemmas.{all_more, each-none, each-some, not_all_at, said_more}
use Rattle.krs_words.proofs.number.groups_words.Goals as goal

pub loop-word-preserved : goal.loop-word-preserved
loop-word-preserved c = (
  all_more (λ w. u32_of w.now) c.args.words.now c.loop-word.word-index _ c.in-Some.gid c.loop-word-test.true
      (sym c.in-Some.ensures) c.loop-word.invariant.0,
  rw (c.in_ok-push.ensures.items, c.loop-word.invariant.1) (sym (said_more
      (λ w. u32_of w.now) c.args.words.now c.loop-word.word-index _ c.in-Some.gid c.loop-word-test.true
      (sym c.in-Some.ensures))),
)

pub returns-in_default : goal.returns-in_default
returns-in_default c =
    each-none u32_of (λ w. w.now) c.args.words.now
    (not_all_at (λ w. u32_of w.now) c.args.words.now c.loop-word.word-index _ c.loop-word-test.true
    (sym c.in_default.ensures))

pub returns : goal.returns
returns c =
    let all = take_all c.loop-word.word-index c.args.words.now c.loop-word-test.false in
    rw (c.new.ensures, c.loop-word.invariant.1, all) (each-some u32_of (λ w. w.now) c.args.words.now
    (rw all at c.loop-word.invariant.0))
