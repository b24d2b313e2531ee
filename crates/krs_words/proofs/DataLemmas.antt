-- Digits behind `hex:`, and the bytes that they spell.
use Rattle.std.proofs.Common.{[], ⊎_elim, ◌%◌, ◌&&◌, ◌+◌, ◌==◌, ◌∷◌, ◌≡◌, ◌≢◌, ◌⊎◌, arith, Bool, codes, cond, drop, Err}
use Rattle.std.proofs.Common.{false, inl, inr, IsOk, IsSome, length, List, nat_eq, None, Ok, Option, refl, Result, Some}
use Rattle.std.proofs.Common.{true, ℕ}
use Rattle.hex.specs.Hex.{◌>>=◌, decode_of, decode_pairs, digit_or_error, hex_digit_value, pair_value, value_at}
use Rattle.hex.specs.declared.error.FromHexError.{FromHexError, TheVariants.{OddLength, OutOfMemory}}
use Rattle.std.specs.{Char.is_ascii_hexdigit, List.{list_all, starts_with}, Result.result_ok}
use Rattle.std.proofs.lemmas.Bool.Decides.{nat_tests}
use Rattle.krs_words.specs.Number.{data_of}
use Rattle.krs_words.proofs.HexadecimalLemmas.{split}

-- what is no hexadecimal digit has no value
no_digit : (c : ℕ) → is_ascii_hexdigit c ≡ false → hex_digit_value c ≡ None
no_digit c bad = grind (arith, nat_tests)

first_fails : {A B : Type 0} (r : Result A FromHexError) (f : A → Result B FromHexError) → result_ok r ≡ None
    → result_ok (r >>= f) ≡ None
first_fails (Ok x) f h = absurd cc
first_fails (Err e) f h = refl

second_fails : {A B : Type 0} (r : Result A FromHexError) (f : A → Result B FromHexError)
    → ((x : A) → result_ok (f x) ≡ None) → result_ok (r >>= f) ≡ None
second_fails (Ok x) f h = h x
second_fails (Err e) f h = refl

either_false : (a b : Bool) → (a && b) ≡ false → (a ≡ false) ⊎ (b ≡ false)
either_false true b both = inr both
either_false false b both = inl refl

value_fails : (c i : ℕ) → is_ascii_hexdigit c ≡ false → result_ok (value_at c i) ≡ None
value_fails c i bad = rw (no_digit c bad) refl

-- bytes with one that is no digit spell nothing
bad_digits : (i : ℕ) (digits : List ℕ) → list_all is_ascii_hexdigit digits ≡ false
    → result_ok (decode_pairs i digits) ≡ None
unfolding decode_pairs
bad_digits i [] bad = absurd cc
bad_digits i (a ∷ []) bad = refl
bad_digits i (a ∷ b ∷ rest) bad =
    ⊎_elim
    (λ high. first_fails (pair_value a b i) _ (first_fails (value_at a i) _ (value_fails a i high)))
    (λ others. ⊎_elim
    (λ low. first_fails (pair_value a b i) _ (second_fails (value_at a i) _ (λ h.
    first_fails (value_at b (i + 1)) _ (value_fails b (i + 1) low))))
    (λ left. second_fails (pair_value a b i) _ (λ byte.
    first_fails (decode_pairs (i + 2) rest) _ (bad_digits (i + 2) rest left)))
    (either_false (is_ascii_hexdigit b) (list_all is_ascii_hexdigit rest) others))
    (either_false (is_ascii_hexdigit a) (list_all is_ascii_hexdigit (b ∷ rest)) bad)

digit_value : (c : ℕ) → is_ascii_hexdigit c ≡ true → IsSome (hex_digit_value c)
digit_value c good = grind (arith, nat_tests)

value_of : (c i : ℕ) (value : Option ℕ) → IsSome value → IsOk (digit_or_error c i value)
value_of c i (Some v) some = refl
value_of c i None some = absurd cc

both_succeed : {A B : Type 0} (r : Result A FromHexError) (f : A → Result B FromHexError) → IsOk r
    → ((x : A) → IsOk (f x)) → IsOk (r >>= f)
both_succeed (Ok x) f ok h = h x
both_succeed (Err e) f ok h = absurd cc

value_at_digit : (c i : ℕ) → is_ascii_hexdigit c ≡ true → IsOk (value_at c i)
value_at_digit c i good = value_of c i (hex_digit_value c) (digit_value c good)

-- digits in pairs spell bytes
good_digits : (i : ℕ) (digits : List ℕ) → list_all is_ascii_hexdigit digits ≡ true → length digits % 2 ≡ 0
    → IsOk (decode_pairs i digits)
unfolding decode_pairs
good_digits i [] good even = refl
good_digits i (a ∷ []) good even = absurd cc
good_digits i (a ∷ b ∷ rest) good even =
    let high = split a (b ∷ rest) good in
    let low = split b rest high.1 in
    let left : length rest % 2 ≡ 0 = omega (arith, even) in
    both_succeed (pair_value a b i) _
    (both_succeed (value_at a i) _ (value_at_digit a i high.0) (λ h.
    both_succeed (value_at b (i + 1)) _ (value_at_digit b (i + 1) low.0) (λ l. refl)))
    (λ byte. both_succeed (decode_pairs (i + 2) rest) _ (good_digits (i + 2) rest low.1 left) (λ bytes. refl))

-- a word with what is no digit behind `hex:` spells nothing
bad_spelling : (digits : List ℕ) → list_all is_ascii_hexdigit digits ≡ false → result_ok (decode_of digits) ≡ None
bad_spelling digits bad =
    elim (length digits % 2 == 1) as (λ b. result_ok (cond b (Err OddLength) (decode_pairs 0 digits)) ≡ None) [
      | true ↦ refl
      | false ↦ bad_digits 0 digits bad
    ]

some_ok : {A E : Type 0} (r : Result A E) → IsOk r → IsSome (result_ok r)
some_ok (Ok x) ok = refl
some_ok (Err e) ok = absurd cc

-- digits, an even number of them, spell bytes
good_spelling : (digits : List ℕ) → list_all is_ascii_hexdigit digits ≡ true → length digits % 2 ≢ 1
    → IsSome (result_ok (decode_of digits))
good_spelling digits good even =
    let pairs : length digits % 2 ≡ 0 = omega (arith, even) in
    rw pairs (some_ok (decode_pairs 0 digits) (good_digits 0 digits good pairs))

-- behind `hex:` stands what is no digit
pub bad_word : (word digits : List ℕ) → starts_with nat_eq word (codes "hex:") ≡ true → digits ≡ drop 4 word
    → list_all is_ascii_hexdigit digits ≡ false → data_of word ≡ None
bad_word word digits begins rest bad = rw (begins, ← rest) (bad_spelling digits bad)

apart : {A : Type 0} (r : Result A FromHexError) → r ≡ Err OutOfMemory → r ≡ Err OddLength → ⊥
apart r is odd = absurd cc

-- behind `hex:` stand digits, and an odd number of them would have been told
pub good_word : {A : Type 0} (word digits : List ℕ) (r : Result A FromHexError)
    → starts_with nat_eq word (codes "hex:") ≡ true → digits ≡ drop 4 word
    → list_all is_ascii_hexdigit digits ≡ true → r ≡ Err OutOfMemory
    → (length digits % 2 ≡ 1 → r ≡ Err OddLength) → IsSome (data_of word)
good_word word digits r begins rest good is odd =
    rw (begins, ← rest) (good_spelling digits good (λ h. apart r is (odd h)))
