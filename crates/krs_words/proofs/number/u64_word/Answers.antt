-- What has digits alone is text, and `parse` reads it.
use Rattle.std.proofs.{Common.{◌<◌, arith, length, sym}, lemmas.Bool.Decides.nat_tests}
use Rattle.krs_words.proofs.NumberLemmas.{below_from_parse, IsUtf8-from_digits}
use Rattle.krs_words.proofs.number.u64_word.Goals as goal

pub returns-in-Err : goal.returns-in-Err
returns-in-Err c = absurd (c.in-Err.ensures.cases.0 (IsUtf8-from_digits c.args.word.now
    (sym c.if-not-has_digits_alone.ensures)))

pub returns-in-Ok : goal.returns-in-Ok
returns-in-Ok c =
    let some : 0 < length c.args.word.now = grind (arith, nat_tests, c.if-is_empty.ensures) in
    rw c.ok.ensures.value (below_from_parse c.args.word.now c.parse.result some
    (sym c.if-not-has_digits_alone.ensures) (rw c.in-Ok.ensures.cases.0 at c.parse.ensures.value.0))
