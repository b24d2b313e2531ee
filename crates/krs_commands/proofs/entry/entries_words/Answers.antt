use Rattle.std.proofs.Common.{sym, take_all}
use Rattle.krs_words.proofs.EachLemmas.{all_more, each-refused, each-some, said_more}
use Rattle.krs_commands.specs.Entry.{entry_of}
use Rattle.krs_commands.proofs.entry.entries_words.Goals as goal

pub loop-word-preserved : goal.loop-word-preserved
loop-word-preserved c = (
  all_more (λ w. entry_of w.now) c.args.words.now c.loop-word.word-index _ c.in-Ok.entry c.loop-word-test.true
      c.in-Ok.ensures c.loop-word.invariant.0,
  rw (c.in_ok-push-in-Ok.ensures.items, c.loop-word.invariant.1) (sym (said_more
      (λ w. entry_of w.now) c.args.words.now c.loop-word.word-index _ c.in-Ok.entry c.loop-word-test.true
      c.in-Ok.ensures)),
)

pub returns-in-Err : goal.returns-in-Err
returns-in-Err c =
    each-refused entry_of (λ w. w.now) c.args.words.now c.loop-word.word-index _ c.in-Err.cause c.loop-word-test.true
    c.in-Err.ensures

pub returns : goal.returns
returns c =
    let all = take_all c.loop-word.word-index c.args.words.now c.loop-word-test.false in
    rw (c.new.ensures, c.loop-word.invariant.1, all) (each-some entry_of (λ w. w.now) c.args.words.now
    (rw all at c.loop-word.invariant.0))
