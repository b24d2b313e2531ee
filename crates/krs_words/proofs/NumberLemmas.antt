-- Decimal numbers, and words that are all numbers.
use Rattle.std.proofs.Common.{◌<◌, ◌^◌, ◌≡◌, arith, Err, IsUtf8, length, List, Ok, OkIff, Result, rules, tests, true, ℕ}
use Rattle.std.specs.{Char.is_ascii_digit, List.list_all, Result.result_ok, Str.Parse.{digits_value, ParsesUnsigned}}
use Rattle.std.proofs.lemmas.{Bool.Decides.nat_tests, Fmt.IsAscii-from_digits, Str.IsUtf8-from_ascii}
use Rattle.std.proofs.lemmas.Str.Parse.{IsDigitsTest, IsNumeralModel, numerals_by_value, parse_digits}
use Rattle.krs_words.specs.Number.{number_below}

digits_test : IsDigitsTest (λ ds. list_all is_ascii_digit ds ≡ true)
digits_test = search (rules, tests)

-- decimal digits and their value, in the words of std's lemmas on `parse`
decimals : IsNumeralModel (λ ds. list_all is_ascii_digit ds ≡ true) (digits_value 10)
decimals = numerals_by_value _ digits_test

-- digits are text
pub IsUtf8-from_digits : (word : List ℕ) → list_all is_ascii_digit word ≡ true → IsUtf8 word
IsUtf8-from_digits word digits = IsUtf8-from_ascii word (IsAscii-from_digits word (decimals.to word digits))

below_from_OkIff : {E : Type 0} (word : List ℕ) (limit : ℕ) (r : Result ℕ E) → 0 < length word
    → list_all is_ascii_digit word ≡ true
    → OkIff r ((0 < length word) × (digits_value 10 word < limit)) (digits_value 10 word)
    → result_ok r ≡ number_below limit word
below_from_OkIff word limit (Ok x) some digits h = grind (arith, nat_tests, h.1, h.0)
below_from_OkIff word limit (Err e) some digits h = grind (arith, nat_tests, h)

-- what `parse` reads of digits
pub below_from_parse : {E : Type 0} (word : List ℕ) (r : Result ℕ E) → 0 < length word
    → list_all is_ascii_digit word ≡ true
    → ParsesUnsigned 64 10 word r → result_ok r ≡ number_below (2 ^ 64) word
below_from_parse word r some digits h = below_from_OkIff word (2 ^ 64) r some digits
    (parse_digits decimals 64 word r h digits)
