-- All was written, and then the writer failed.
use Rattle.krs_words.proofs.WritingLemmas.{Appends-kept, WritesFront-all}
use Rattle.krs_words.proofs.writing.write_text.Goals as goal

pub returns-in-Err-clause-failed : goal.returns-in-Err-clause-failed
returns-in-Err-clause-failed g c =
    WritesFront-all _ _ _ (Appends-kept _ _ _ _ c.in_ok-write_whole.ensures.ok c.in-Err.ensures.bytes)
