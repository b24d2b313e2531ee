-- In an acyclic state a closed choice is that of the held keys.
use Rattle.std.proofs.Common.{[], ⊎_elim, ◌+◌, ◌==◌, ◌||◌, ◌∷◌, ◌≡◌, ◌≤◌, arith, Bool, false, inl, inr, IsSome}
use Rattle.std.proofs.Common.{length, List, nat_cmp, refl, subst, suc, sym, true, true≢false, zero, ℕ}
use Rattle.std.proofs.lemmas.{Bool.{cases_eq, Decides.nat_tests}, Map.Keys.IsDistinct-cons}
use Rattle.std.proofs.lemmas.Map.Steps.{length-le_from_keys}
use Rattle.std.specs.{BTreeMap.is_at, Cmp.{eq_by_cmp_equiv, nat_cmp_total}, List.{AllByRecursion, IsDistinct}}
use Rattle.std.specs.{List.list_any, Ordering.eq_by_cmp}
use Rattle.krs_model.specs.{Anchored.{IsAnchored, IsClosedChoice}, Levels.is_in, Reach.{Directly, Further, IsAcyclic}}
use Rattle.krs_model.specs.{Reach.{links_of_key_at, Reaches}, State.Key, Sweep.{Attached, IsHeld, Linked, PicksHeld}}
use Rattle.krs_model.specs.Table.{at, Table}
use Rattle.krs_model.proofs.{Reach.{Acyclic.reaches_on, Levels.{or_true, same_is}}, Sweep.Laws.linking_is_there}
use Rattle.krs_model.proofs.Tables.Changes.{same_at}
use Rattle.std.proofs.lemmas.Grind.{common_steps}

-- the first of a list is in it
pub in_head : (k : ℕ) (ks : List ℕ) → is_in k (k ∷ ks) ≡ true
in_head k ks = rw (same_is k k refl) refl

-- another number is not the same by test
pub other_is : (x k : ℕ) → (x ≡ k → ⊥) → (x == k) ≡ false
other_is x k h = grind (arith, nat_tests)

-- what is in a list and is not its first is in the rest
pub in_rest : (q k : ℕ) (ks : List ℕ) → (q ≡ k → ⊥) → is_in q (k ∷ ks) ≡ true → is_in q ks ≡ true
in_rest q k ks n h = subst (λ b. (b || is_in q ks) ≡ true) (other_is k q (λ s. n (sym s))) h

is_at_other : (q k : ℕ) → (q ≡ k → ⊥) → is_at (nat_cmp q) k ≡ false
is_at_other q k h = grind (arith, nat_tests, same_at)

out_all : (j : ℕ) (vs : List ℕ) → is_in j vs ≡ false → AllByRecursion (λ y. eq_by_cmp nat_cmp j y ≡ false) vs
out_all j [] h = tt
out_all j (v ∷ vs) h = grind (arith, nat_tests, true≢false, is_at_other, same_is, out_all j vs)

any_in : (q : ℕ) (vs : List ℕ) → list_any (eq_by_cmp nat_cmp q) vs ≡ true → is_in q vs ≡ true
any_in q [] h = h
any_in q (v ∷ vs) h = grind (arith, nat_tests, same_is, same_at, or_true, any_in q vs)

-- Back from a key that stays along what anchors it: each key is new, as no key reaches itself, so that the way ends at
-- an attachment after as many steps as there are keys. `vs` are the keys on the way so far, all reached from `k`.
walk :
    (keys : Table Key) (attached : List ℕ) (kept : ℕ → Bool) → IsAcyclic (links_of_key_at keys)
    → IsClosedChoice keys attached kept → (n : ℕ) (k : ℕ) (vs : List ℕ) → IsDistinct (eq_by_cmp nat_cmp) (k ∷ vs)
    → ((q : ℕ) → is_in q (k ∷ vs) ≡ true → IsSome (at keys q))
    → ((q : ℕ) → is_in q vs ≡ true → Reaches (links_of_key_at keys) k q) → kept k ≡ true → length keys ≤ n + length vs
    → IsHeld keys attached k
walk keys attached kept acyclic c zero k vs distinct there reached keep enough =
    let few : length (k ∷ vs) ≤ length keys =
    length-le_from_keys (eq_by_cmp_equiv nat_cmp_total) (k ∷ vs) keys distinct
    (λ q i. there q (any_in q (k ∷ vs) i)) in
    absurd (omega (arith, few, enough))
walk keys attached kept acyclic c (suc n) k vs distinct there reached keep enough =
    ⊎_elim
    (λ (i : is_in k attached ≡ true). Attached k i)
    (λ (l : (j : ℕ) × (kept j ≡ true) × (is_in k (links_of_key_at keys j) ≡ true)).
    let j = l.0 in
    let stands : IsSome (at keys j) = linking_is_there k (at keys j) l.2 in
    let link : Reaches (links_of_key_at keys) j k = Directly j k l.2 in
    elim (is_in j (k ∷ vs)) as (λ b. is_in j (k ∷ vs) ≡ b → IsHeld keys attached k) [
      | true ↦ λ t. absurd (⊎_elim
          (λ (s : j ≡ k). acyclic k (subst (λ (z : ℕ). Reaches (links_of_key_at keys) z k) s link))
          (λ (ne : j ≡ k → ⊥). acyclic k (Further k j k (reached j (in_rest j k vs ne t)) l.2))
          (cases_eq j k))
      | false ↦ λ t. Linked j k
          (walk keys attached kept acyclic c n j (k ∷ vs)
          (IsDistinct-cons (eq_by_cmp nat_cmp) j (k ∷ vs) (out_all j (k ∷ vs) t) distinct)
          (λ q i. ⊎_elim (λ (s : q ≡ j). subst (λ (z : ℕ). IsSome (at keys z)) (sym s) stands)
          (λ (ne : q ≡ j → ⊥). there q (in_rest q j (k ∷ vs) ne i)) (cases_eq q j))
          (λ q i. ⊎_elim (λ (s : q ≡ k). subst (λ (z : ℕ). Reaches (links_of_key_at keys) j z) (sym s) link)
          (λ (ne : q ≡ k → ⊥). reaches_on (links_of_key_at keys) j k q link
          (reached q (in_rest q k vs ne i))) (cases_eq q k))
          l.1 (omega (arith, enough)))
          l.2
    ] refl)
    (c.only k (there k (in_head k vs)) keep)

held_stays :
    (keys : Table Key) (attached : List ℕ) (kept : ℕ → Bool) → IsClosedChoice keys attached kept → (k : ℕ)
    → IsHeld keys attached k → IsSome (at keys k) → kept k ≡ true
held_stays keys attached kept c _ (Attached k i) there = c.each k there (inl i)
held_stays keys attached kept c _ (Linked j k held i) there =
    c.each k there (inr (j, held_stays keys attached kept c j held (linking_is_there k (at keys j) i), i))

-- the keys of a closed choice are the held ones
pub closed_held :
    (keys : Table Key) (attached : List ℕ) (kept : ℕ → Bool) → IsAcyclic (links_of_key_at keys)
    → IsClosedChoice keys attached kept → PicksHeld keys attached kept
unfolding IsDistinct
closed_held keys attached kept acyclic c = record {
  only = λ k there keep.
      walk keys attached kept acyclic c (length keys) k [] (IsDistinct-cons (eq_by_cmp nat_cmp) k [] tt tt)
      (λ q i. ⊎_elim (λ (s : q ≡ k). subst (λ (z : ℕ). IsSome (at keys z)) (sym s) there)
      (λ (ne : q ≡ k → ⊥). absurd (true≢false (sym (in_rest q k [] ne i)))) (cases_eq q k))
      (λ q i. absurd (true≢false (sym i)))
      keep (omega arith);
  each = held_stays keys attached kept c;
}

anchored :
    (keys : Table Key) (attached : List ℕ) (kept : ℕ → Bool) → PicksHeld keys attached kept → (k : ℕ)
    → IsHeld keys attached k → IsAnchored keys attached kept k
anchored keys attached kept picks _ (Attached k i) = inl i
anchored keys attached kept picks _ (Linked j k held i) = grind (arith, common_steps, linking_is_there)

-- and the held ones are a closed choice, in any state
pub held_closed :
    (keys : Table Key) (attached : List ℕ) (kept : ℕ → Bool) → PicksHeld keys attached kept
    → IsClosedChoice keys attached kept
held_closed keys attached kept picks = record {
  only = λ k there keep. anchored keys attached kept picks k (picks.only k there keep);
  each = λ k there anchor. picks.each k (⊎_elim
      (λ (i : is_in k attached ≡ true). Attached k i)
      (λ (l : (j : ℕ) × (kept j ≡ true) × (is_in k (links_of_key_at keys j) ≡ true)).
      Linked l.0 k (picks.only l.0 (linking_is_there k (at keys l.0) l.2) l.1) l.2)
      anchor) there;
}
