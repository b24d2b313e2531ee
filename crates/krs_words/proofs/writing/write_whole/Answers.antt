use Rattle.krs_words.proofs.WritingLemmas.{WritesSome-more}
use Rattle.krs_words.proofs.writing.write_whole.Goals as goal

pub loop-preserved : goal.loop-preserved
loop-preserved g c = WritesSome-more _ _ _ _ _ _ c.loop.invariant c.in_ok-rest.ensures.ok
