-- Digits behind `hex:`.
use Rattle.std.proofs.Common.{◌∙◌, ◌≡◌, ap, codes, Err, nat_eq, rules, sym, true}
use Rattle.std.specs.List.{starts_with}
use Rattle.krs_words.proofs.DataLemmas.{bad_word, good_word}
use Rattle.krs_words.proofs.number.data_word.Goals as goal

pub returns-then-not-has_hexadecimal_digits_alone-clause-value :
    goal.returns-then-not-has_hexadecimal_digits_alone-clause-value
returns-then-not-has_hexadecimal_digits_alone-clause-value c =
    let begins : starts_with nat_eq c.args.word.now (codes "hex:") ≡ true = search rules in
    bad_word c.args.word.now c.in-Some.digits.now begins c.in-Some.ensures.cases.1
    (sym c.if-not-has_hexadecimal_digits_alone.ensures)

pub returns-in-Err-OutOfMemory-clause-memory : goal.returns-in-Err-OutOfMemory-clause-memory
returns-in-Err-OutOfMemory-clause-memory c = λ _.
    let begins : starts_with nat_eq c.args.word.now (codes "hex:") ≡ true = search rules in
    good_word c.args.word.now c.in-Some.digits.now c.decode.result begins
    c.in-Some.ensures.cases.1 (sym c.if-not-has_hexadecimal_digits_alone.ensures)
    (c.in-Err-OutOfMemory.is ∙ ap Err c.in-Err-OutOfMemory.field-0-is) c.decode.ensures.odd
