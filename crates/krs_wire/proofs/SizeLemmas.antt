-- How many bytes a field has at least, so that a count of more than there can be is refused before any is read.
use Rattle.std.proofs.Common.{◌*◌, ◌+◌, ◌<◌, ◌∷◌, ◌≡◌, ◌≤◌, ap, arith, length, length-drop, List}
use Rattle.std.proofs.Common.{nat_lt, None, Option, option_and_then, refl, Some, suc, w32, zero, ℕ}
use Rattle.std.proofs.lemmas.Bool.Decides.{nat_tests}
use Rattle.krs_wire.specs.Bodies.{entry_field, entry_of, entry_parts}
use Rattle.krs_wire.specs.Field.{both, built, Field, many_read, number, repeated}
use Rattle.krs_wire.proofs.FieldLemmas.{bind_some, some_is}
use Rattle.std.proofs.lemmas.Grind.{common_steps}

-- what is read has so many bytes at least
abbrev pub IsLong : {A : Type 0} → Field A → ℕ → Type 0
IsLong {A} f size = (bytes : List ℕ) (x : A) (more : List ℕ) → f.read bytes ≡ Some (x, more)
    → size + length more ≤ length bytes

pub number_long : IsLong (number w32) 4
number_long bytes x more e = grind (arith, common_steps, nat_lt, w32, some_is, nat_tests, length-drop)

pub both_long : {A B : Type 0} (f : Field A) (g : Field B) (m n : ℕ) → IsLong f m → IsLong g n
    → IsLong (both f g) (m + n)
both_long {A} {B} f g m n lf lg bytes x more e =
    let a = bind_some (f.read bytes) (λ (a : A × List ℕ). option_and_then (λ (b : B × List ℕ). Some ((a.0, b.0), b.1))
    (g.read a.1)) (x, more) e in
    let b = bind_some (g.read a.0.1) (λ (b : B × List ℕ). Some ((a.0.0, b.0), b.1)) (x, more) a.2 in
    let rest : length b.0.1 ≡ length more =
    ap (λ (p : (A × B) × List ℕ). length p.1) (some_is ((a.0.0, b.0.0), b.0.1) (x, more) b.2) in
    omega (arith, rest, lf bytes a.0.0 a.0.1 a.1, lg a.0.1 b.0.0 b.0.1 b.1)

many_long : {A : Type 0} (f : Field A) (size : ℕ) → IsLong f size → (n : ℕ) (bytes : List ℕ) (xs : List A)
    (more : List ℕ) → many_read f n bytes ≡ Some (xs, more) → size * n + length more ≤ length bytes
unfolding many_read
many_long {A} f size long zero bytes xs more e = grind (arith, common_steps, some_is)
many_long {A} f size long (suc n) bytes xs more e =
    let a = bind_some (f.read bytes) (λ (a : A × List ℕ). option_and_then (λ (b : List A × List ℕ).
    Some (a.0 ∷ b.0, b.1)) (many_read f n a.1)) (xs, more) e in
    let b = bind_some (many_read f n a.0.1) (λ (b : List A × List ℕ). Some (a.0.0 ∷ b.0, b.1)) (xs, more) a.2 in
    let rest : length b.0.1 ≡ length more =
    ap (λ (p : List A × List ℕ). length p.1) (some_is (a.0.0 ∷ b.0.0, b.0.1) (xs, more) b.2) in
    let first = long bytes a.0.0 a.0.1 a.1 in
    let others = many_long f size long n a.0.1 b.0.0 b.0.1 b.1 in
    omega (arith, rest, first, others)

pub repeated_long : {A : Type 0} (f : Field A) (size n : ℕ) → IsLong f size → IsLong (repeated n f) (size * n)
repeated_long f size n long bytes xs more e = many_long f size long n bytes xs more e

pub built_long : {A B : Type 0} (f : Field A) (make : A → B) (parts : B → A) (size : ℕ) → IsLong f size
    → IsLong (built f make parts) size
built_long {A} {B} f make parts size long bytes x more e =
    let a = bind_some (f.read bytes) (λ (a : A × List ℕ). Some (make a.0, a.1)) (x, more) e in
    let rest : length a.0.1 ≡ length more =
    ap (λ (p : B × List ℕ). length p.1) (some_is (make a.0.0, a.0.1) (x, more) a.2) in
    omega (arith, rest, long bytes a.0.0 a.0.1 a.1)

-- four words, of which the last are eight
pub entry_long : IsLong entry_field 44
entry_long =
    built_long (both (number w32) (both (number w32) (both (number w32) (repeated 8 (number w32))))) entry_of
    entry_parts 44
    (both_long (number w32) (both (number w32) (both (number w32) (repeated 8 (number w32)))) 4 40 number_long
    (both_long (number w32) (both (number w32) (repeated 8 (number w32))) 4 36 number_long
    (both_long (number w32) (repeated 8 (number w32)) 4 32 number_long
    (repeated_long (number w32) 4 8 number_long))))

none_or : {A : Type 0} (o : Option A) → ((x : A) → o ≡ Some x → ⊥) → o ≡ None
none_or None never = refl
none_or (Some x) never = absurd (never x refl)

-- of fewer bytes than so many have, so many are not read
pub too_many : {A : Type 0} (f : Field A) (size : ℕ) → IsLong f size → (n : ℕ) (bytes : List ℕ)
    → length bytes < size * n → many_read f n bytes ≡ None
too_many f size long n bytes short =
    none_or (many_read f n bytes)
    (λ p e. let enough = many_long f size long n bytes p.0 p.1 e in absurd (omega (arith, enough, short)))
