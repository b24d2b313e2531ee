-- How often a serial stands in a list.
use Rattle.std.proofs.Common.{[], ◌++◌, ◌+◌, ◌<◌, ◌==◌, ◌||◌, ◌∙◌, ◌∷◌, ◌≡◌, ap, arith, cond, false, List, refl}
use Rattle.std.proofs.Common.{sym, true, true≢false, ℕ}
use Rattle.std.proofs.lemmas.{List.Sums.{sum_by-append, sum_by-cons}}
use Rattle.krs_model.specs.Levels.{is_in}
use Rattle.krs_model.proofs.Reach.Levels.{or_true, same_is}
use Rattle.krs_hold.specs.Tally.{times}
use Rattle.std.proofs.lemmas.Grind.{common_steps}
use Rattle.krs_model.proofs.Sweep.HeldKeys.{other_is}

pub in_tail : (q k : ℕ) (ks : List ℕ) → is_in q ks ≡ true → is_in q (k ∷ ks) ≡ true
in_tail q k ks h = or_true (k == q) (is_in q ks) h

pub times-cons : (k x : ℕ) (xs : List ℕ) → times k (x ∷ xs) ≡ cond (x == k) 1 0 + times k xs
times-cons k x xs = sum_by-cons (λ q. cond (q == k) 1 0) x xs

pub times-append : (k : ℕ) (xs ys : List ℕ) → times k (xs ++ ys) ≡ times k xs + times k ys
times-append k xs ys = sum_by-append (λ q. cond (q == k) 1 0) xs ys

pub times-same : (k : ℕ) (xs : List ℕ) → times k (k ∷ xs) ≡ 1 + times k xs
times-same k xs = times-cons k k xs ∙ ap (λ b. cond b 1 0 + times k xs) (same_is k k refl)

pub times-other : (q k : ℕ) (xs : List ℕ) → (q ≡ k → ⊥) → times q (k ∷ xs) ≡ times q xs
times-other q k xs n = grind (arith, common_steps, times-cons, other_is)

pub times-in : (k : ℕ) (xs : List ℕ) → 0 < times k xs → is_in k xs ≡ true
times-in k [] h = absurd (omega arith)
times-in k (x ∷ xs) h =
    elim (x == k) as (λ b. times k (x ∷ xs) ≡ cond b 1 0 + times k xs → (b || is_in k xs) ≡ true) [
      | true ↦ λ e. refl
      | false ↦ λ e. times-in k xs (omega (arith, h, e))
    ] (times-cons k x xs)

pub in-times : (k : ℕ) (xs : List ℕ) → is_in k xs ≡ true → 0 < times k xs
in-times k [] h = absurd (true≢false (sym h))
in-times k (x ∷ xs) h =
    elim (x == k) as (λ b. times k (x ∷ xs) ≡ cond b 1 0 + times k xs → (b || is_in k xs) ≡ true
    → 0 < times k (x ∷ xs)) [
      | true ↦ λ e i. omega (arith, e)
      | false ↦ λ e i. let r = in-times k xs i in omega (arith, e, r)
    ] (times-cons k x xs) h
