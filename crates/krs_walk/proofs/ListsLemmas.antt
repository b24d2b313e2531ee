-- Laws of lists of serials, and of joining them.
use Rattle.std.proofs.Common.{[], ⊎_elim, ◌++◌, ◌==◌, ◌||◌, ◌∙◌, ◌∷◌, ◌≡◌, ◌⊎◌, ap, append-nil, append_assoc, arith}
use Rattle.std.proofs.Common.{Bool, cond, false, inl, inr, List, refl, slice_get, Some, subst, suc, sym, true}
use Rattle.std.proofs.Common.{true≢false, zero, ℕ}
use Rattle.std.specs.List.{list_any}
use Rattle.std.proofs.lemmas.{List.Folds.list_any-append, Option.{none-some, same_Some}}
use Rattle.krs_model.specs.Levels.{is_in}
use Rattle.krs_walk.specs.Lists.{join}
use Rattle.krs_model.proofs.Reach.Levels.{equal_is, in_left, in_one, in_right, only_in, or_true, same_is, true_or}
use Rattle.std.proofs.lemmas.Grind.{common_steps}

pub or_left : (b c : Bool) → b ≡ true → (b || c) ≡ true
or_left true c h = refl
or_left false c h = absurd (true≢false (sym h))

pub in_head : (x : ℕ) (xs : List ℕ) → is_in x (x ∷ xs) ≡ true
in_head x xs = or_left (x == x) (is_in x xs) (same_is x x refl)

pub in_tail : (k x : ℕ) (xs : List ℕ) → is_in k xs ≡ true → is_in k (x ∷ xs) ≡ true
in_tail k x xs h = or_true (x == k) (is_in k xs) h

pub in_cons : (k x : ℕ) (xs : List ℕ) → is_in k (x ∷ xs) ≡ true → (k ≡ x) ⊎ (is_in k xs ≡ true)
in_cons k x xs h = grind (arith, common_steps, ⊎_elim, equal_is, true_or)

-- what a list has at a place is in it
pub in_at : (xs : List ℕ) (i k : ℕ) → slice_get xs i ≡ Some k → is_in k xs ≡ true
in_at [] i k h = absurd (none-some k h)
in_at (x ∷ xs) zero k h = or_left (x == k) (is_in k xs) (same_is x k (same_Some x k h))
in_at (x ∷ xs) (suc i) k h = in_tail k x xs (in_at xs i k h)

pub in_append : (k : ℕ) (xs ys : List ℕ) → is_in k (xs ++ ys) ≡ (is_in k xs || is_in k ys)
in_append k xs ys = list_any-append (λ q. q == k) xs ys

pub in_none : (k : ℕ) → is_in k [] ≡ true → ⊥
in_none k h = true≢false (sym h)

-- two tests that pass together are one
pub same_tests : (a b : Bool) → (a ≡ true → b ≡ true) → (b ≡ true → a ≡ true) → a ≡ b
same_tests true b f g = sym (f refl)
same_tests false true f g = g refl
same_tests false false f g = refl

-- each of the first is in the second
abbrev pub Within : List ℕ → List ℕ → Type 0
Within xs ys = (k : ℕ) → is_in k xs ≡ true → is_in k ys ≡ true

-- what joins a list: the ones of xs that are not in seen, each once
abbrev pub fresh : List ℕ → List ℕ → List ℕ
fresh seen [] = []
fresh seen (x ∷ xs) = cond (is_in x seen) (fresh seen xs) (x ∷ fresh (seen ++ x ∷ []) xs)

pub join_fresh : (seen xs : List ℕ) → join seen xs ≡ seen ++ fresh seen xs
join_fresh seen [] = sym (append-nil seen)
join_fresh seen (x ∷ xs) = grind (arith, common_steps, append_assoc, join_fresh seen xs, join_fresh (seen ++ x ∷ []) xs)

pub join_append : (seen xs ys : List ℕ) → join seen (xs ++ ys) ≡ join (join seen xs) ys
join_append seen [] ys = refl
join_append seen (x ∷ xs) ys = join_append (cond (is_in x seen) seen (seen ++ x ∷ [])) xs ys

-- nothing new joins
pub join_within : (seen xs : List ℕ) → Within xs seen → join seen xs ≡ seen
join_within seen [] h = refl
join_within seen (x ∷ xs) h =
    ap (λ b. join (cond b seen (seen ++ x ∷ [])) xs) (h x (in_head x xs))
    ∙ join_within seen xs (λ k m. h k (in_tail k x xs m))

pub in_join_left : (seen xs : List ℕ) (k : ℕ) → is_in k seen ≡ true → is_in k (join seen xs) ≡ true
in_join_left seen xs k h = ap (is_in k) (join_fresh seen xs) ∙ in_left k seen (fresh seen xs) h

pub in_join_right : (seen xs : List ℕ) (k : ℕ) → is_in k xs ≡ true → is_in k (join seen xs) ≡ true
in_join_right seen [] k h = absurd (in_none k h)
in_join_right seen (x ∷ xs) k h =
    ⊎_elim (λ (e : k ≡ x). in_join_left (cond (is_in x seen) seen (seen ++ x ∷ [])) xs k
    (elim (is_in x seen) as (λ b. is_in x seen ≡ b → is_in k (cond b seen (seen ++ x ∷ [])) ≡ true) [
      | true ↦ λ t. ap (λ (z : ℕ). is_in z seen) e ∙ t
      | false ↦ λ t. in_right k seen (x ∷ []) (ap (λ (z : ℕ). is_in z (x ∷ [])) e ∙ in_head x [])
    ] refl))
    (λ (m : is_in k xs ≡ true). in_join_right (cond (is_in x seen) seen (seen ++ x ∷ [])) xs k m)
    (in_cons k x xs h)

pub in_join : (seen xs : List ℕ) (k : ℕ) → is_in k (join seen xs) ≡ true → (is_in k seen ≡ true) ⊎ (is_in k xs ≡ true)
in_join seen [] k h = inl h
in_join seen (x ∷ xs) k h =
    ⊎_elim (λ (m : is_in k (cond (is_in x seen) seen (seen ++ x ∷ [])) ≡ true).
    elim (is_in x seen) as (λ b. is_in k (cond b seen (seen ++ x ∷ [])) ≡ true
    → (is_in k seen ≡ true) ⊎ (is_in k (x ∷ xs) ≡ true)) [
      | true ↦ λ n. inl n
      | false ↦ λ n. ⊎_elim (λ (l : is_in k seen ≡ true). inl l)
          (λ (r : is_in k (x ∷ []) ≡ true). inr (subst (λ (z : ℕ). is_in z (x ∷ xs) ≡ true) (sym (only_in k x r))
          (in_head x xs)))
          (in_one k seen (x ∷ []) n)
    ] m)
    (λ (m : is_in k xs ≡ true). inr (in_tail k x xs m))
    (in_join (cond (is_in x seen) seen (seen ++ x ∷ [])) xs k h)

pub any_at : (p : ℕ → Bool) (x : ℕ) (xs : List ℕ) → is_in x xs ≡ true → p x ≡ true → list_any p xs ≡ true
any_at p x [] h t = absurd (in_none x h)
any_at p x (y ∷ xs) h t =
    ⊎_elim (λ (e : x ≡ y). or_left (p y) (list_any p xs) (sym (ap p e) ∙ t))
    (λ (m : is_in x xs ≡ true). or_true (p y) (list_any p xs) (any_at p x xs m t)) (in_cons x y xs h)

or_twice : (a b c : Bool) → (b ≡ true → a ≡ true) → (a || c) ≡ (a || (b || c))
or_twice true b c h = refl
or_twice false true c h = absurd (true≢false (sym (h refl)))
or_twice false false c h = refl

-- a list with what joins it passes the tests that the two lists pass
pub any_join : (p : ℕ → Bool) (seen xs : List ℕ) → list_any p (join seen xs) ≡ list_any p (seen ++ xs)
any_join p seen [] = ap (list_any p) (sym (append-nil seen))
any_join p seen (x ∷ xs) =
    elim (is_in x seen) as (λ b. is_in x seen ≡ b → list_any p (join (cond b seen (seen ++ x ∷ [])) xs)
    ≡ list_any p (seen ++ x ∷ xs)) [
      | true ↦ λ m. any_join p seen xs ∙ (list_any-append p seen xs
          ∙ (or_twice (list_any p seen) (p x) (list_any p xs) (λ t. any_at p x seen m t)
          ∙ sym (list_any-append p seen (x ∷ xs))))
      | false ↦ λ m. any_join p (seen ++ x ∷ []) xs ∙ ap (list_any p) (append_assoc seen (x ∷ []) xs)
    ] refl
