-- Laws of tests that agree on a list.
use Rattle.std.proofs.Common.{[], ◌==◌, ◌∷◌, ◌≡◌, Bool, filter, find, List, refl, true, ℕ}
use Rattle.std.specs.List.{list_any}
use Rattle.krs_model.specs.Levels.{is_in}
use Rattle.krs_model.proofs.Reach.Levels.{or_true, same_is}

-- two tests agree on what is in a list
abbrev pub AgreeOn : List ℕ → (ℕ → Bool) → (ℕ → Bool) → Type 0
AgreeOn xs p q = (k : ℕ) → is_in k xs ≡ true → p k ≡ q k

agree_first : (x : ℕ) (xs : List ℕ) (p q : ℕ → Bool) → AgreeOn (x ∷ xs) p q → p x ≡ q x
agree_first x xs p q agree = agree x (rw (same_is x x refl) refl)

agree_rest : (x : ℕ) (xs : List ℕ) (p q : ℕ → Bool) → AgreeOn (x ∷ xs) p q → AgreeOn xs p q
agree_rest x xs p q agree = λ k i. agree k (or_true (x == k) (is_in k xs) i)

pub filter_agree : (p q : ℕ → Bool) (xs : List ℕ) → AgreeOn xs p q → filter p xs ≡ filter q xs
filter_agree p q [] agree = refl
filter_agree p q (x ∷ xs) agree = rw (agree_first x xs p q agree, filter_agree p q xs (agree_rest x xs p q agree))

pub find_agree : (p q : ℕ → Bool) (xs : List ℕ) → AgreeOn xs p q → find p xs ≡ find q xs
find_agree p q [] agree = refl
find_agree p q (x ∷ xs) agree = rw (agree_first x xs p q agree, find_agree p q xs (agree_rest x xs p q agree))

pub any_agree : (p q : ℕ → Bool) (xs : List ℕ) → AgreeOn xs p q → list_any p xs ≡ list_any q xs
any_agree p q [] agree = refl
any_agree p q (x ∷ xs) agree = rw (agree_first x xs p q agree, any_agree p q xs (agree_rest x xs p q agree))
