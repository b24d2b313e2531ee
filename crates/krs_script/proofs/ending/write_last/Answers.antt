use Rattle.std.proofs.{Common.{Err, Ok, OnErr, Result}, lemmas.Result.err_from_is_err_and}
use Rattle.krs_words.proofs.WritingLemmas.{WritesFront-after, WritesFront-before}
use Rattle.krs_script.proofs.ending.write_last.Goals as goal

on_err : {A E : Type 0} (r : Result A E) (P Q : Type 0) → (P → Q) → OnErr r P → OnErr r Q
on_err (Ok x) P Q f h = tt
on_err (Err e) P Q f h = f h

pub returns-in_err-write_out-clause-failed : goal.returns-in_err-write_out-clause-failed
returns-in_err-write_out-clause-failed g c =
    let p = err_from_is_err_and c.from_residual.result c.from_residual.ensures.1 in
    rw p.1 (WritesFront-before _ _ _ _ c.in_err-write_out.ensures.failed)

pub returns-clause-failed : goal.returns-clause-failed
returns-clause-failed g c =
    on_err c.write_text.result _ _ (λ front. WritesFront-after _ _ _ _ _ c.in_ok-write_out.ensures.ok front)
    (rw c.as_bytes.ensures.value at c.write_text.ensures.failed)
