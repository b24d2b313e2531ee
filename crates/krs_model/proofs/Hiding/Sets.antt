-- To hide a set of keys is lawful.
use Rattle.std.proofs.Common.{[], ◌&&◌, ◌==◌, ◌∙◌, ◌∷◌, ◌≡◌, arith, Bool, cond, Err, false, length, List, nat_le, Ok}
use Rattle.std.proofs.{Common.{refl, Result, sym, true, ℕ}, lemmas.Bool.Decides.nat_tests}
use Rattle.krs_types.specs.declared.{errno.Errno.{Errno, TheVariants.EINVAL}, kind.Kind.TheVariants.User}
use Rattle.krs_types.specs.{declared.kind.PayloadRule.{PayloadRule, TheVariants.{NoBytes, SomeBytes}}, Kind.paid}
use Rattle.krs_types.specs.Kind.{paid_by, row_of}
use Rattle.krs_model.specs.Hiding.{Hides, hiding}

pub not_empty : (n : ℕ) → (nat_le 1 n && nat_le n 32767) ≡ true → (n == 0) ≡ false
not_empty n h = grind (arith, nat_tests)

one_byte : (rule : PayloadRule) (bytes : List ℕ) (secret : Bool)
    → paid_by rule (cond (secret && (nat_le 1 (length bytes) && nat_le (length bytes) 32767)) (0 ∷ []) bytes)
    ≡ paid_by rule bytes
one_byte rule bytes false = refl
one_byte SomeBytes bytes true = grind (arith, nat_tests)
one_byte NoBytes bytes true = grind (arith, nat_tests, not_empty)

pub hides : (secret : ℕ → Bool) → Hides (hiding secret)
hides secret = λ n kind bytes. one_byte (row_of kind).payload bytes (secret n)

abbrev pub taken : Bool → Result (Unit {0}) Errno
taken b = cond b (Ok tt) (Err EINVAL)

pub lawful : (b : Bool) → taken b ≡ Ok tt → b ≡ true
lawful true h = refl
lawful false h = absurd (cc)

one : (secret : ℕ → Bool) (n : ℕ) (bytes : List ℕ) → secret n ≡ true → paid User bytes ≡ Ok tt
    → hiding secret n bytes ≡ 0 ∷ []
one secret n bytes is fits = grind (arith, nat_tests, lawful)

pub alike : (secret : ℕ → Bool) (n : ℕ) (bytes other : List ℕ) → secret n ≡ true → paid User bytes ≡ Ok tt
    → paid User other ≡ Ok tt → hiding secret n bytes ≡ hiding secret n other
alike secret n bytes other is fits too = one secret n bytes is fits ∙ sym (one secret n other is too)

pub bare : (secret : ℕ → Bool) (n : ℕ) (bytes : List ℕ) → secret n ≡ false → hiding secret n bytes ≡ bytes
bare secret n bytes is =
    λ i. cond (is i && (nat_le 1 (length bytes) && nat_le (length bytes) 32767)) (0 ∷ []) bytes
