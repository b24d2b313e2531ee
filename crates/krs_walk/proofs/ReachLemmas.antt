-- Laws of reaching, along all links and along those to keyrings.
use Rattle.std.proofs.Common.{[], ⊎_elim, ◌∙◌, ◌∷◌, ◌≡◌, ap, Bool, cond, false, filter, inl, inr, List, refl, subst}
use Rattle.std.proofs.Common.{suc, sym, true, zero, ℕ}
use Rattle.krs_model.specs.{Laws.ClosesCycle, Levels.{is_in, level, levels}}
use Rattle.krs_model.specs.Reach.{Directly, Further, is_ring, links_of_key_at, nested_in, Reaches}
use Rattle.krs_model.specs.{State.Key, Table.{at, Table}}
use Rattle.krs_model.proofs.Reach.Levels.{in_flat, in_one, only_in}
use Rattle.krs_keys.specs.Keys.{OnlyRingsLink}
use Rattle.krs_walk.proofs.{LevelsLemmas.Fewer, ListsLemmas.{in_cons, in_none, in_tail}}
use Rattle.krs_walk.proofs.ListsLemmas.{in_head}

-- a key of a list that passes the test is in the list of those that do
pub in_filter : (p : ℕ → Bool) (xs : List ℕ) (k : ℕ) → is_in k xs ≡ true → p k ≡ true → is_in k (filter p xs) ≡ true
in_filter p [] k m t = absurd (in_none k m)
in_filter p (x ∷ xs) k m t =
    ⊎_elim (λ (e : k ≡ x). subst (λ (b : Bool). is_in k (cond b (x ∷ filter p xs) (filter p xs)) ≡ true)
    (sym t ∙ ap p e) (subst (λ (z : ℕ). is_in z (x ∷ filter p xs) ≡ true) (sym e) (in_head x (filter p xs))))
    (λ (r : is_in k xs ≡ true). elim (p x) as (λ b. is_in k (cond b (x ∷ filter p xs) (filter p xs)) ≡ true) [
      | true ↦ in_tail k x (filter p xs) (in_filter p xs k r t)
      | false ↦ in_filter p xs k r t
    ])
    (in_cons k x xs m)

pub from_filter : (p : ℕ → Bool) (xs : List ℕ) (k : ℕ) → is_in k (filter p xs) ≡ true
    → (p k ≡ true) × (is_in k xs ≡ true)
from_filter p [] k m = absurd (in_none k m)
from_filter p (x ∷ xs) k m =
    elim (p x) as (λ b. p x ≡ b → is_in k (cond b (x ∷ filter p xs) (filter p xs)) ≡ true
    → (p k ≡ true) × (is_in k (x ∷ xs) ≡ true)) [
      | true ↦ λ t n. ⊎_elim (λ (e : k ≡ x). (
        ap p e ∙ t,
        subst (λ (z : ℕ). is_in z (x ∷ xs) ≡ true) (sym e)
            (in_head x xs),
      ))
          (λ (r : is_in k (filter p xs) ≡ true). let s = from_filter p xs k r in (s.0, in_tail k x xs s.1))
          (in_cons k x (filter p xs) n)
      | false ↦ λ t n. let s = from_filter p xs k n in (s.0, in_tail k x xs s.1)
    ] refl m

pub nested_fewer : (keys : Table Key) → Fewer (nested_in keys) (links_of_key_at keys)
nested_fewer keys j k m = (from_filter (λ q. is_ring (at keys q)) (links_of_key_at keys j) k m).1

pub nested_ring : (keys : Table Key) (j k : ℕ) → is_in k (nested_in keys j) ≡ true → is_ring (at keys k) ≡ true
nested_ring keys j k m = (from_filter (λ q. is_ring (at keys q)) (links_of_key_at keys j) k m).0

pub one_more : (links : ℕ → List ℕ) (a j b : ℕ) → ClosesCycle links a j → is_in b (links j) ≡ true → Reaches links a b
one_more links a j b (inl e) h = Directly a b (subst (λ (z : ℕ). is_in b (links z) ≡ true) (sym e) h)
one_more links a j b (inr p) h = Further a j b p h

reaches_fewer : (some links : ℕ → List ℕ) (a b : ℕ) → Fewer some links → Reaches some a b → Reaches links a b
reaches_fewer some links _ _ fewer (Directly a b h) = Directly a b (fewer a b h)
reaches_fewer some links _ _ fewer (Further a j b p h) =
    Further a j b (reaches_fewer some links a j fewer p) (fewer j b h)

-- where only keyrings link, a keyring is reached along nested keyrings
reaches_nested : (keys : Table Key) (a b : ℕ) → OnlyRingsLink keys → is_ring (at keys b) ≡ true
    → Reaches (links_of_key_at keys) a b → Reaches (nested_in keys) a b
reaches_nested keys _ _ only ring (Directly a b h) =
    Directly a b (in_filter (λ q. is_ring (at keys q)) (links_of_key_at keys a) b h ring)
reaches_nested keys _ _ only ring (Further a j b p h) =
    Further a j b (reaches_nested keys a j only (only j b h) p)
    (in_filter (λ q. is_ring (at keys q)) (links_of_key_at keys j) b h ring)

pub closes_links : (keys : Table Key) (a b : ℕ) → ClosesCycle (nested_in keys) a b
    → ClosesCycle (links_of_key_at keys) a b
closes_links keys a b (inl e) = inl e
closes_links keys a b (inr p) = inr (reaches_fewer (nested_in keys) (links_of_key_at keys) a b (nested_fewer keys) p)

pub closes_nested : (keys : Table Key) (a b : ℕ) → OnlyRingsLink keys → is_ring (at keys b) ≡ true
    → ClosesCycle (links_of_key_at keys) a b → ClosesCycle (nested_in keys) a b
closes_nested keys a b only ring (inl e) = inl e
closes_nested keys a b only ring (inr p) = inr (reaches_nested keys a b only ring p)

from_level : (links : ℕ → List ℕ) (key n k : ℕ) → is_in k (level links (key ∷ []) n) ≡ true → ClosesCycle links key k
unfolding level
from_level links key zero k m = inl (sym (only_in k key m))
from_level links key (suc n) k m =
    let from = in_flat links (level links (key ∷ []) n) k m in
    inr (one_more links key from.0 k (from_level links key n from.0 from.1) from.2)

-- the levels have nothing else than the key and what is reached from it
pub from_levels : (links : ℕ → List ℕ) (key n k : ℕ) → is_in k (levels links (key ∷ []) n) ≡ true
    → ClosesCycle links key k
unfolding levels
from_levels links key zero k m = absurd (in_none k m)
from_levels links key (suc n) k m =
    ⊎_elim (λ (before : is_in k (levels links (key ∷ []) n) ≡ true). from_levels links key n k before)
    (λ (last : is_in k (level links (key ∷ []) n) ≡ true). from_level links key n k last)
    (in_one k (levels links (key ∷ []) n) (level links (key ∷ []) n) m)
