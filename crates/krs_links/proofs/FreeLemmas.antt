-- Numbers behind a digest that are all taken are no more than the entries: so soon one is free.
use Rattle.std.proofs.Common.{[], ⊎_elim, ◌+◌, ◌<◌, ◌^◌, ◌∙◌, ◌∷◌, ◌≡◌, ◌≤◌, ap, arith, false, is_some, IsSome, length}
use Rattle.std.proofs.Common.{List, nat_eq, refl, subst, suc, sym, true, zero, ℕ}
use Rattle.std.specs.{Cmp.nat_eq_equiv, List.{AllByRecursion, IsDistinct, list_any}, Map.lookup}
use Rattle.std.proofs.lemmas.Bool.{cases_eq, Decides.{eqb_tells, nat_tests}}
use Rattle.std.proofs.lemmas.Map.{Keys.{IsDistinct-cons, IsDistinct-from_apart}, Steps.length-le_from_keys}
use Rattle.krs_links.specs.{Indexed.behind, declared.index.Link.Link}
use Rattle.std.proofs.lemmas.Grind.{common_steps}

-- each number fewer steps behind a digest than these, the last first
abbrev numbers_behind : ℕ → ℕ → List ℕ
numbers_behind digest zero = []
numbers_behind digest (suc steps) = behind digest steps ∷ numbers_behind digest steps

length-numbers_behind : (digest steps : ℕ) → length (numbers_behind digest steps) ≡ steps
length-numbers_behind digest zero = refl
length-numbers_behind digest (suc steps) = ap (λ k. suc k) (length-numbers_behind digest steps)

-- two of them are apart
apart : (digest few many : ℕ) → few < many → many < 2 ^ 64 → nat_eq (behind digest many) (behind digest few) ≡ false
unfolding behind
apart digest few many less small = grind (arith, nat_tests)

apart_from_all : (digest steps many : ℕ) → steps ≤ many → many < 2 ^ 64 →
    AllByRecursion (λ k. nat_eq (behind digest many) k ≡ false) (numbers_behind digest steps)
apart_from_all digest zero many le small = tt
apart_from_all digest (suc steps) many le small =
    grind (arith, common_steps, apart, apart_from_all digest steps many (omega arith) small)

all_apart : (digest steps : ℕ) → steps ≤ 2 ^ 64 → IsDistinct nat_eq (numbers_behind digest steps)
all_apart digest zero small = IsDistinct-from_apart nat_eq [] (λ i j d below within. absurd (omega arith))
all_apart digest (suc steps) small =
    grind (arith, common_steps, nat_eq, IsDistinct-cons, apart_from_all, all_apart digest steps (omega arith))

-- what is said of each of them is said of a number among them
said_of_all : (P : ℕ → Type 0) (digest steps q : ℕ) → ((s : ℕ) → s < steps → P (behind digest s)) →
    list_any (nat_eq q) (numbers_behind digest steps) ≡ true → P q
said_of_all P digest zero q said among = cc
said_of_all P digest (suc steps) q said among =
    ⊎_elim
    (λ same. subst P (sym same.1) (said steps (omega arith)))
    (λ other. said_of_all P digest steps q (λ s below. said s (omega (arith, below))) (rw other.0 at among))
    (eqb_tells q (behind digest steps))

-- each number fewer steps behind a digest than these is taken
abbrev pub AreTaken : ℕ → ℕ → List (ℕ × Link) → Type 0
AreTaken digest steps entries = (s : ℕ) → s < steps → IsSome (lookup (nat_eq (behind digest s)) entries)

-- there are at least as many entries
taken_at_most : (digest steps : ℕ) (entries : List (ℕ × Link)) → steps ≤ 2 ^ 64 → AreTaken digest steps entries →
    steps ≤ length entries
taken_at_most digest steps entries small taken =
    let most = length-le_from_keys nat_eq_equiv (numbers_behind digest steps) entries (all_apart digest steps small)
    (λ q among. said_of_all (λ k. IsSome (lookup (nat_eq k) entries)) digest steps q taken among) in
    rw length-numbers_behind at most

one_more_taken : (digest steps : ℕ) (entries : List (ℕ × Link)) → AreTaken digest steps entries →
    is_some (lookup (nat_eq (behind digest steps)) entries) ≡ true → AreTaken digest (steps + 1) entries
one_more_taken digest steps entries taken here s below = grind (arith, common_steps, ⊎_elim, nat_eq, cases_eq)

-- where the next is taken too, there is one entry more than steps
pub taken_further : (digest steps next : ℕ) (entries : List (ℕ × Link)) → steps < 2 ^ 64
    → AreTaken digest steps entries →
    next ≡ behind digest steps → true ≡ is_some (lookup (nat_eq next) entries) →
    (steps + 1 ≤ length entries) × AreTaken digest (steps + 1) entries
taken_further digest steps next entries small taken is here =
    let further = one_more_taken digest steps entries taken
    (ap (λ k. is_some (lookup (nat_eq k) entries)) (sym is) ∙ sym here) in
    (taken_at_most digest (steps + 1) entries (omega (arith, small)) further, further)
