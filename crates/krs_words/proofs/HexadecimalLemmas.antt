-- Hexadecimal numbers.
use Rattle.std.proofs.Common.{[], ◌&&◌, ◌<◌, ◌^◌, ◌∷◌, ◌≡◌, ◌≢◌, ◌≤◌, arith, Bool, Err, false, get_or, IsUtf8, length}
use Rattle.std.proofs.Common.{List, Ok, OkIff, refl, Result, suc, true, zero, ℕ}
use Rattle.std.specs.Char.{digit_value, is_ascii_hexdigit}
use Rattle.std.specs.{List.list_all, Result.result_ok, Str.Parse.{AllDigits, digits_value, IsNumeral, ParsesUnsigned}}
use Rattle.std.proofs.{Math.Nat.pow-le-pow_right, lemmas.Bool.Decides.nat_tests}
use Rattle.std.proofs.lemmas.{Int.Digits.digits_value-lt, Str.{IsUtf8-from_ascii, Parse.without_leading_plus_none}}
use Rattle.krs_words.specs.Number.{hexadecimal_of}

-- a digit is below sixteen, is ASCII, and is no plus
digit_facts : (c : ℕ) → is_ascii_hexdigit c ≡ true → (digit_value c < 16) × (c < 128) × (c ≢ 43)
digit_facts c digit = grind (arith, nat_tests)

both_tests : (a b : Bool) → (a && b) ≡ true → (a ≡ true) × (b ≡ true)
both_tests true b both = (refl, both)
both_tests false b both = absurd cc

-- the first digit, and the others
pub split : (c : ℕ) (cs : List ℕ) → list_all is_ascii_hexdigit (c ∷ cs) ≡ true
    → (is_ascii_hexdigit c ≡ true) × (list_all is_ascii_hexdigit cs ≡ true)
split c cs digits = both_tests (is_ascii_hexdigit c) (list_all is_ascii_hexdigit cs) digits

-- digits in the words of std
all_digits : (word : List ℕ) → list_all is_ascii_hexdigit word ≡ true → AllDigits 16 word
all_digits [] digits = tt
all_digits (c ∷ cs) digits =
    let both = split c cs digits in
    ((digit_facts c both.0).0, all_digits cs both.1)

each_ascii : (word : List ℕ) → list_all is_ascii_hexdigit word ≡ true → (i : ℕ) → get_or word i 0 < 128
each_ascii [] digits i = omega arith
each_ascii (c ∷ cs) digits zero = (digit_facts c (split c cs digits).0).1
each_ascii (c ∷ cs) digits (suc i) = each_ascii cs (split c cs digits).1 i

-- digits are text
pub IsUtf8-from_hexadecimal : (word : List ℕ) → list_all is_ascii_hexdigit word ≡ true → IsUtf8 word
IsUtf8-from_hexadecimal word digits = IsUtf8-from_ascii word (each_ascii word digits)

no_plus : (word : List ℕ) → list_all is_ascii_hexdigit word ≡ true → get_or word 0 0 ≢ 43
no_plus [] digits = λ is. cc
no_plus (c ∷ cs) digits = (digit_facts c (split c cs digits).0).2

-- eight digits are a number of 32 bits
below_eight : (word : List ℕ) → length word ≤ 8 → list_all is_ascii_hexdigit word ≡ true
    → digits_value 16 word < 2 ^ 32
below_eight word short digits =
    let below : digits_value 16 word < 16 ^ length word = digits_value-lt 16 word (all_digits word digits) in
    let most : 16 ^ length word ≤ 16 ^ 8 = pow-le-pow_right (omega arith) short in
    omega (arith, below, most)

from_OkIff : {E : Type 0} (word : List ℕ) (r : Result ℕ E) → 0 < length word → length word ≤ 8
    → list_all is_ascii_hexdigit word ≡ true
    → OkIff r (IsNumeral 16 word × (digits_value 16 word < 2 ^ 32)) (digits_value 16 word)
    → result_ok r ≡ hexadecimal_of word
from_OkIff word (Ok x) some short digits h = grind (arith, nat_tests, h.1)
from_OkIff word (Err e) some short digits h =
    absurd (h ((some, all_digits word digits), below_eight word short digits))

-- what `from_str_radix` reads of digits
pub hexadecimal_from_radix : {E : Type 0} (word : List ℕ) (r : Result ℕ E) → 0 < length word → length word ≤ 8
    → list_all is_ascii_hexdigit word ≡ true
    → ParsesUnsigned 32 16 word r → result_ok r ≡ hexadecimal_of word
hexadecimal_from_radix word r some short digits h =
    from_OkIff word r some short digits (rw (without_leading_plus_none word (no_plus word digits)) at h)
