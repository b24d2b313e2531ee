-- What has hexadecimal digits alone is text, and `from_str_radix` reads it.
use Rattle.std.proofs.{Common.{◌<◌, ◌≤◌, arith, length, sym}, lemmas.Bool.Decides.nat_tests}
use Rattle.krs_words.proofs.HexadecimalLemmas.{hexadecimal_from_radix, IsUtf8-from_hexadecimal}
use Rattle.krs_words.proofs.number.hexadecimal_word.Goals as goal

pub returns-in-Err : goal.returns-in-Err
returns-in-Err c = absurd (c.in-Err.ensures.cases.0 (IsUtf8-from_hexadecimal c.args.word.now
    (sym c.if-not-has_hexadecimal_digits_alone.ensures)))

pub returns-in-Ok : goal.returns-in-Ok
returns-in-Ok c =
    let some : 0 < length c.args.word.now = grind (arith, nat_tests, c.if-is_empty.ensures) in
    let short : length c.args.word.now ≤ 8 = omega arith in
    rw c.ok.ensures.value (hexadecimal_from_radix c.args.word.now c.from_str_radix.result some short
    (sym c.if-not-has_hexadecimal_digits_alone.ensures) (rw c.in-Ok.ensures.cases.0
    at c.from_str_radix.ensures.value))
