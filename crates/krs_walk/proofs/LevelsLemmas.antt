-- A walk that comes to each key once gives the levels' keys, each at its first place.
use Rattle.std.proofs.Common.{[], ⊎_elim, ◌++◌, ◌+◌, ◌∙◌, ◌∷◌, ◌≡◌, ◌⊎◌, ap, cond, drop, false, flat_map, inl, inr}
use Rattle.std.proofs.Common.{length, List, refl, subst, suc, sym, take, take-append-drop, take_at, true, zero, ℕ}
use Rattle.std.proofs.lemmas.List.{append_cancel_left}
use Rattle.krs_model.specs.Levels.{is_in, level, levels}
use Rattle.krs_model.proofs.Reach.Levels.{in_flat, in_left, in_one, in_right, level_more, levels_more, only_in}
use Rattle.krs_walk.specs.Lists.{join}
use Rattle.krs_walk.proofs.ListsLemmas.{fresh, in_cons, in_join, in_join_left, in_join_right, in_none}
use Rattle.krs_walk.proofs.ListsLemmas.{join_append, join_fresh, join_within, Within}
use Rattle.std.proofs.Common.{arith}
use Rattle.std.proofs.lemmas.Grind.{common_steps}

-- what each of these links is there
abbrev pub Covers : (ℕ → List ℕ) → List ℕ → List ℕ → Type 0
Covers links all passed = (j : ℕ) → is_in j passed ≡ true → Within (links j) all

pub covers_more : (links : ℕ → List ℕ) (all passed : List ℕ) (x : ℕ) → Covers links all passed
    → Covers links (join all (links x)) (passed ++ x ∷ [])
covers_more links all passed x h = grind (arith, common_steps, ⊎_elim, in_join_left, in_join_right, only_in, in_one)

-- it is enough to follow the keys that are new
pub follow_fresh : (links : ℕ → List ℕ) (all passed xs : List ℕ) → Covers links all passed
    → join all (flat_map links xs) ≡ join all (flat_map links (fresh passed xs))
follow_fresh links all passed [] h = refl
follow_fresh links all passed (x ∷ xs) h =
    join_append all (links x) (flat_map links xs) ∙
    (elim (is_in x passed) as (λ b. is_in x passed ≡ b → join (join all (links x)) (flat_map links xs)
    ≡ join all (flat_map links (cond b (fresh passed xs) (x ∷ fresh (passed ++ x ∷ []) xs)))) [
      | true ↦ λ m. ap (λ zs. join zs (flat_map links xs)) (join_within all (links x) (h x m))
          ∙ follow_fresh links all passed xs h
      | false ↦ λ m. follow_fresh links (join all (links x)) (passed ++ x ∷ []) xs (covers_more links all passed x h)
          ∙ sym (join_append all (links x) (flat_map links (fresh (passed ++ x ∷ []) xs)))
    ] refl)

pub in_flat_map : (f : ℕ → List ℕ) (xs : List ℕ) (j k : ℕ) → is_in j xs ≡ true → is_in k (f j) ≡ true
    → is_in k (flat_map f xs) ≡ true
in_flat_map f [] j k m n = absurd (in_none j m)
in_flat_map f (x ∷ xs) j k m n =
    ⊎_elim (λ (e : j ≡ x). in_left k (f x) (flat_map f xs) (subst (λ (z : ℕ). is_in k (f z) ≡ true) e n))
    (λ (r : is_in j xs ≡ true). in_right k (f x) (flat_map f xs) (in_flat_map f xs j k r n))
    (in_cons j x xs m)

-- what a key of the first n levels links is in the first n + 1
pub levels_next : (links : ℕ → List ℕ) (heads : List ℕ) (n j k : ℕ) → is_in j (levels links heads n) ≡ true
    → is_in k (links j) ≡ true → is_in k (levels links heads (suc n)) ≡ true
unfolding level levels
levels_next links heads zero j k m h = absurd (in_none j m)
levels_next links heads (suc n) j k m h =
    ⊎_elim (λ (before : is_in j (levels links heads n) ≡ true).
    in_left k (levels links heads (suc n)) (level links heads (suc n)) (levels_next links heads n j k before h))
    (λ (last : is_in j (level links heads n) ≡ true). in_right k (levels links heads (suc n))
    (level links heads (suc n)) (in_flat_map links (level links heads n) j k last h))
    (in_one j (levels links heads n) (level links heads n) m)

-- some of the links of each key
abbrev pub Fewer : (ℕ → List ℕ) → (ℕ → List ℕ) → Type 0
Fewer some links = (j k : ℕ) → is_in k (some j) ≡ true → is_in k (links j) ≡ true

level_fewer : (some links : ℕ → List ℕ) (heads : List ℕ) (n k : ℕ) → Fewer some links
    → is_in k (level some heads n) ≡ true → is_in k (level links heads n) ≡ true
unfolding level
level_fewer some links heads zero k fewer m = m
level_fewer some links heads (suc n) k fewer m =
    let from = in_flat some (level some heads n) k m in
    in_flat_map links (level links heads n) from.0 k (level_fewer some links heads n from.0 fewer from.1)
    (fewer from.0 k from.2)

-- what is in the levels along some of the links is in the levels along all
pub levels_fewer : (some links : ℕ → List ℕ) (heads : List ℕ) (n k : ℕ) → Fewer some links
    → is_in k (levels some heads n) ≡ true → is_in k (levels links heads n) ≡ true
unfolding levels
levels_fewer some links heads zero k fewer m = absurd (in_none k m)
levels_fewer some links heads (suc n) k fewer m =
    ⊎_elim (λ (before : is_in k (levels some heads n) ≡ true).
    in_left k (levels links heads n) (level links heads n) (levels_fewer some links heads n k fewer before))
    (λ (last : is_in k (level some heads n) ≡ true). in_right k (levels links heads n) (level links heads n)
    (level_fewer some links heads n k fewer last))
    (in_one k (levels some heads n) (level some heads n) m)

-- a walk at level n: the keys before `start` are of the levels below n, those from there on of level n
pub record IsAt (links : ℕ → List ℕ) (heads : List ℕ) (n start : ℕ) (all : List ℕ) : Type 0 where
  pub level_is : all ≡ join (take start all) (level links heads n)
  pub upto : all ≡ join [] (levels links heads (n + 1))
  pub covers : Covers links all (take start all)

pub at_heads : (links : ℕ → List ℕ) (heads all : List ℕ) → all ≡ join [] heads → IsAt links heads 0 0 all
unfolding level levels
at_heads links heads all e = record { level_is = e; upto = e; covers = λ j m. absurd (in_none j m) }

new_keys : (start : ℕ) (all xs : List ℕ) → all ≡ join (take start all) xs → drop start all ≡ fresh (take start all) xs
new_keys start all xs e = grind (arith, common_steps, append_cancel_left, fresh, take-append-drop, join_fresh)

-- all that the keys of level n link joins: the walk is at the next level
pub at_next : (links : ℕ → List ℕ) (heads : List ℕ) (n start : ℕ) (all next : List ℕ) → IsAt links heads n start all
    → next ≡ join all (flat_map links (drop start all)) → IsAt links heads (n + 1) (length all) next
at_next links heads n start all next h e =
    let below : next ≡ join all (flat_map links (level links heads n)) =
    e ∙ (ap (λ zs. join all (flat_map links zs)) (new_keys start all (level links heads n) h.level_is)
    ∙ sym (follow_fresh links all (take start all) (level links heads n) h.covers)) in
    let joins : next ≡ join all (level links heads (n + 1)) =
    below ∙ ap (join all) (sym (level_more links heads n)) in
    let front : take (length all) next ≡ all =
    ap (take (length all)) (joins ∙ join_fresh all (level links heads (n + 1)))
    ∙ take_at all (fresh all (level links heads (n + 1))) (length all) refl in
    record {
      level_is = joins ∙ ap (λ zs. join zs (level links heads (n + 1))) (sym front);
      upto = joins ∙ (ap (λ zs. join zs (level links heads (n + 1))) h.upto
          ∙ (sym (join_append [] (levels links heads (n + 1)) (level links heads (n + 1)))
          ∙ ap (join []) (sym (levels_more links heads (n + 1)))));
      covers = λ j m k i. subst (λ (zs : List ℕ). is_in k zs ≡ true) (sym below)
          (⊎_elim (λ (l : is_in j (take start all) ≡ true). in_join_left all (flat_map links (level links heads n)) k
          (h.covers j l k i))
          (λ (r : is_in j (level links heads n) ≡ true). in_join_right all (flat_map links (level links heads n)) k
          (in_flat_map links (level links heads n) j k r i))
          (in_join (take start all) (level links heads n) j (subst (λ (zs : List ℕ). is_in j zs ≡ true) h.level_is
          (subst (λ (zs : List ℕ). is_in j zs ≡ true) front m))));
    }

-- in the first n + 1 levels: a head, or linked by a key of the first n
pub levels_from : (links : ℕ → List ℕ) (heads : List ℕ) (n k : ℕ) → is_in k (levels links heads (suc n)) ≡ true
    → (is_in k heads ≡ true) ⊎ ((j : ℕ) × (is_in j (levels links heads n) ≡ true) × (is_in k (links j) ≡ true))
unfolding level levels
levels_from links heads zero k m = inl m
levels_from links heads (suc n) k m =
    ⊎_elim (λ (before : is_in k (levels links heads (suc n)) ≡ true).
    ⊎_elim (λ i. inl i) (λ r. inr (r.0, in_left r.0 (levels links heads n) (level links heads n) r.1, r.2))
    (levels_from links heads n k before))
    (λ (last : is_in k (level links heads (suc n)) ≡ true). let r = in_flat links (level links heads n) k last in
    inr (r.0, in_right r.0 (levels links heads n) (level links heads n) r.1, r.2))
    (in_one k (levels links heads (suc n)) (level links heads (suc n)) m)
