-- The words of a table as it is made.
use Rattle.std.proofs.Common.{◌+◌, ◌∙◌, ◌∷◌, ◌≡◌, add-one, ap, length, List, refl, replicate, slice_index, slice_set}
use Rattle.std.proofs.{Common.{subst, suc, sym, zero, ℕ}, lemmas.List.length-replicate}
use Rattle.krs_desk.specs.Rule.{AreZero}

zeroes : (n i : ℕ) → slice_index (replicate n 0) i ≡ 0
zeroes zero i = refl
zeroes (suc n) zero = refl
zeroes (suc n) (suc i) = zeroes n i

-- the first says that the seats are dealt, and the others that all cells are empty
abbrev AreFirst : ℕ → List ℕ → Type 0
AreFirst n words = (length words ≡ n + 1) × (slice_index words 0 ≡ 2) × AreZero words

pub first_words : (n : ℕ) (words : List ℕ) → words ≡ replicate (n + 1) 0
    → (length (slice_set words 0 2) ≡ n + 1) × (slice_index (slice_set words 0 2) 0 ≡ 2) × AreZero (slice_set words 0 2)
first_words n words e =
    subst (λ (ws : List ℕ). AreFirst n (slice_set ws 0 2)) (sym (e ∙ ap (λ (k : ℕ). replicate k 0) (add-one n))) (
      ap suc (length-replicate n 0) ∙ sym (add-one n),
      refl,
      λ lane. ap (slice_index (2 ∷ replicate n 0)) (add-one lane) ∙ zeroes n lane,
    )
