-- The lines of bytes, one after the other.
use Rattle.std.proofs.Common.{[], ◌<◌, ◌==◌, ◌∷◌, ◌≡◌, ◌⊎◌, ap, arith, false, IfSome, if◌then◌else◌, inl, inr, length}
use Rattle.std.proofs.Common.{List, None, Option, refl, Some, true, ℕ}
use Rattle.std.specs.Io.BufRead.{drop_through, DropsThrough, ends_with_byte, first_piece, strip_last, take_through}
use Rattle.std.proofs.lemmas.{Bool.Decides.nat_tests, Grind.common_steps}
use Rattle.krs_words.specs.Lines.{lines_of, ReadsLines}

ends-cons : (b x : ℕ) (xs : List ℕ) → ends_with_byte 10 (b ∷ x ∷ xs) ≡ ends_with_byte 10 (x ∷ xs)
ends-cons b x xs = grind (arith, nat_tests, common_steps)

strip_last-cons : (b x : ℕ) (xs : List ℕ) → strip_last 10 (b ∷ x ∷ xs) ≡ b ∷ strip_last 10 (x ∷ xs)
strip_last-cons b x xs = grind (arith, nat_tests, common_steps, ends-cons b x xs)

take_through-some : (c : ℕ) (cs : List ℕ) → (rest : List ℕ) × (take_through 10 (c ∷ cs) ≡ c ∷ rest)
take_through-some c cs =
    elim (c == 10) as (λ t. (rest : List ℕ) × ((if t then c ∷ [] else c ∷ take_through 10 cs) ≡ c ∷ rest)) [
      | true ↦ ([], refl)
      | false ↦ (take_through 10 cs, refl)
    ]

-- a byte that is no newline, before others
first_piece-cons : (b c : ℕ) (cs : List ℕ) → (b == 10) ≡ false
    → first_piece 10 (b ∷ c ∷ cs) ≡ b ∷ first_piece 10 (c ∷ cs)
first_piece-cons b c cs other =
    let some = take_through-some c cs in
    let all : take_through 10 (b ∷ c ∷ cs) ≡ b ∷ c ∷ some.0 = rw (other, some.1) refl in
    rw (all, some.1) (strip_last-cons b c some.0)

alone : (b : ℕ) → (b == 10) ≡ false → lines_of (b ∷ []) ≡ first_piece 10 (b ∷ []) ∷ lines_of (drop_through 10
    (b ∷ []))
alone b other = grind (arith, nat_tests, common_steps, other)

at_newline : (b : ℕ) (bs : List ℕ) → b ≡ 10 → lines_of (b ∷ bs) ≡ first_piece 10 (b ∷ bs) ∷ lines_of
    (drop_through 10 (b ∷ bs))
at_newline b bs is = rw is refl

before_others : (b c : ℕ) (cs : List ℕ) → (b == 10) ≡ false
    → lines_of (c ∷ cs) ≡ first_piece 10 (c ∷ cs) ∷ lines_of (drop_through 10 (c ∷ cs))
    → lines_of (b ∷ c ∷ cs) ≡ first_piece 10 (b ∷ c ∷ cs) ∷ lines_of (drop_through 10 (b ∷ c ∷ cs))
before_others b c cs other rest = rw (first_piece-cons b c cs other, other, rest) refl

cases_newline : (b : ℕ) → (b ≡ 10) ⊎ ((b == 10) ≡ false)
cases_newline b = grind (arith, nat_tests)

-- the first line of bytes, and those of the rest
pub lines_of-first : (b : ℕ) (bs : List ℕ) → lines_of (b ∷ bs) ≡ first_piece 10 (b ∷ bs) ∷ lines_of
    (drop_through 10 (b ∷ bs))
lines_of-first b [] = elim (cases_newline b) [ inl is ↦ at_newline b [] is | inr other ↦ alone b other ]
lines_of-first b (c ∷ cs) =
    elim (cases_newline b) [
      | inl is ↦ at_newline b (c ∷ cs) is
      | inr other ↦ before_others b c cs other
          (lines_of-first c cs)
    ]

-- a line that was read up to its newline
pub ReadsLines-first : (old left : Option (List ℕ)) (held line : List ℕ)
    → IfSome old (λ bytes. held ≡ take_through 10 bytes)
    → DropsThrough old left 10 → 0 < length held → line ≡ strip_last 10 held → ReadsLines old left (line ∷ [])
ReadsLines-first None left held line all drops some is = tt
ReadsLines-first (Some []) left held line all drops some is = absurd (omega (arith, ap length all))
ReadsLines-first (Some (b ∷ bs)) left held line all drops some is = rw (drops, is, all) (lines_of-first b bs)
