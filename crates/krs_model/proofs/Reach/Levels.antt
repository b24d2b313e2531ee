-- Laws of levels.
use Rattle.std.proofs.Common.{[], ◌++◌, ◌+◌, ◌-◌, ◌<◌, ◌==◌, ◌||◌, ◌∷◌, ◌≡◌, ◌≢◌, ◌⊎◌, add-one, arith, Bool, false}
use Rattle.std.proofs.Common.{flat_map, inl, inr, List, refl, subst, suc, sym, true, true≢false, zero, ℕ}
use Rattle.std.proofs.lemmas.{Bool.Decides.nat_tests, List.Folds.list_any-append}
use native.Mathlib.Numerals.{unary_clauses}
use Rattle.krs_model.specs.Levels.{is_in, level, levels}

pub or_true : (b c : Bool) → c ≡ true → (b || c) ≡ true
or_true true c h = refl
or_true false c h = h

pub true_or : (b c : Bool) → (b || c) ≡ true → (b ≡ true) ⊎ (c ≡ true)
true_or true c h = inl refl
true_or false c h = inr h

pub equal_is : (a b : ℕ) → (a == b) ≡ true → a ≡ b
equal_is a b h = grind (arith, nat_tests)

pub apart_is : (a b : ℕ) → a ≢ b → (a == b) ≡ false
apart_is a b h = grind (arith, nat_tests)

pub same_is : (x k : ℕ) → x ≡ k → (x == k) ≡ true
same_is x k h = grind (arith, nat_tests)

-- one level more
pub level_more : (links : ℕ → List ℕ) (heads : List ℕ) (n : ℕ)
    → level links heads (n + 1) ≡ flat_map links (level links heads n)
unfolding level
level_more links heads n = rw add-one refl

pub levels_more : (links : ℕ → List ℕ) (heads : List ℕ) (n : ℕ)
    → levels links heads (n + 1) ≡ levels links heads n ++ level links heads n
unfolding levels
levels_more links heads n = rw add-one refl

-- in two lists one after the other
pub in_left : (k : ℕ) (xs ys : List ℕ) → is_in k xs ≡ true → is_in k (xs ++ ys) ≡ true
in_left k xs ys h = rw (list_any-append (λ q. q == k) xs ys, h) refl

pub in_right : (k : ℕ) (xs ys : List ℕ) → is_in k ys ≡ true → is_in k (xs ++ ys) ≡ true
in_right k xs ys h = rw (list_any-append (λ q. q == k) xs ys) (or_true (is_in k xs) (is_in k ys) h)

pub in_one : (k : ℕ) (xs ys : List ℕ) → is_in k (xs ++ ys) ≡ true → (is_in k xs ≡ true) ⊎ (is_in k ys ≡ true)
in_one k xs ys h = true_or (is_in k xs) (is_in k ys) (rw (list_any-append (λ q. q == k) xs ys) at h)

pub only_in : (k n : ℕ) → is_in k (n ∷ []) ≡ true → k ≡ n
only_in k n h = grind (arith, nat_tests, true≢false, true_or)

-- what is in a flattened list is in the list of one of its keys
pub in_flat : (links : ℕ → List ℕ) (xs : List ℕ) (k : ℕ) → is_in k (flat_map links xs) ≡ true
    → (j : ℕ) × (is_in j xs ≡ true) × (is_in k (links j) ≡ true)
in_flat links [] k h = absurd (true≢false (sym h))
in_flat links (x ∷ xs) k h = grind (arith, nat_tests, same_is, or_true, in_one, in_flat links xs k) steps 600000

-- in the first n levels: a head, or linked by a key of the first n levels
pub levels_linked : (links : ℕ → List ℕ) (heads : List ℕ) (n k : ℕ) → is_in k (levels links heads n) ≡ true
    → (is_in k heads ≡ true) ⊎ ((j : ℕ) × (is_in j (levels links heads n) ≡ true) × (is_in k (links j) ≡ true))
unfolding level levels
levels_linked links heads zero k h = absurd (true≢false (sym h))
levels_linked links heads (suc zero) k h = inl h
levels_linked links heads (suc (suc n)) k h =
    grind (arith, nat_tests, in_left, in_flat, in_right, in_one, levels_linked links heads (suc n) k)

-- what is in the first n levels is in the first n + m
pub levels_on : (links : ℕ → List ℕ) (heads : List ℕ) (k n m : ℕ) → is_in k (levels links heads n) ≡ true
    → is_in k (levels links heads (n + m)) ≡ true
unfolding levels
levels_on links heads k n zero h = simp unary_clauses h
levels_on links heads k n (suc m) h = simp unary_clauses
    (in_left k (levels links heads (n + m)) (level links heads (n + m)) (levels_on links heads k n m h))

-- what is in the first n levels is in one of them
pub in_level : (links : ℕ → List ℕ) (heads : List ℕ) (k n : ℕ) → is_in k (levels links heads n) ≡ true
    → (m : ℕ) × (m < n) × (is_in k (level links heads m) ≡ true)
unfolding levels
in_level links heads k zero h = absurd (true≢false (sym h))
in_level links heads k (suc n) h = grind (arith, nat_tests, in_one, in_level links heads k n) steps 600000

-- what is in one of the first n levels is in them
pub of_level : (links : ℕ → List ℕ) (heads : List ℕ) (k m n : ℕ) → m < n → is_in k (level links heads m) ≡ true
    → is_in k (levels links heads n) ≡ true
of_level links heads k m n below h =
    let here : is_in k (levels links heads (m + 1)) ≡ true =
    rw (levels_more links heads m) (in_right k (levels links heads m) (level links heads m) h) in
    let all : m + 1 + (n - (m + 1)) ≡ n = omega arith in
    subst (λ (x : ℕ). is_in k (levels links heads x) ≡ true) all (levels_on links heads k (m + 1) (n - (m + 1)) here)
