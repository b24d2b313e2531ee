-- Laws of a walk from a key that goes along links until it comes to a goal.
use Rattle.std.proofs.Common.{[], ⊎_elim, ◌++◌, ◌+◌, ◌-◌, ◌<◌, ◌==◌, ◌↔◌, ◌∙◌, ◌∷◌, ◌≡◌, ◌≤◌, ap, arith, Bool}
use Rattle.std.proofs.Common.{cond, eqb, false, get_or, inl, inr, is_some, length, length-append, List, map, nat_cmp}
use Rattle.std.proofs.Common.{None, Option, refl, Some, subst, suc, sym, take, take_all, true, true≢false, ℕ}
use Rattle.std.specs.{BTreeMap.is_at, List.IsDistinct, Map.keys_of}
use Rattle.std.proofs.lemmas.Bool.{cases_lt, Decides.nat_tests}
use Rattle.std.proofs.lemmas.List.{get_or-append_right, get_or_append_left, length-map, take-append-le, take_more}
use Rattle.std.proofs.lemmas.List.Folds.{list_any_at}
use Rattle.krs_model.specs.{Laws.ClosesCycle, Levels.{is_in, level, levels}}
use Rattle.krs_model.specs.Reach.{closes, Directly, Further, is_ring, links_of_key_at, nested_in, Reaches}
use Rattle.krs_model.specs.{State.Key, Table.{at, Table}}
use Rattle.krs_model.proofs.Reach.Acyclic.{closed_levels, IsClosed}
use Rattle.krs_model.proofs.{Reach.{Cycles.there_in, Levels.levels_on}, Tables.Changes.same_at}
use Rattle.krs_keys.specs.Keys.{OnlyRingsLink, seen, shown}
use Rattle.krs_walk.specs.{Lists.join, Walks.is_nested_within}
use Rattle.krs_walk.proofs.LevelsLemmas.{Covers, covers_more, levels_fewer, levels_next}
use Rattle.krs_walk.proofs.ListsLemmas.{fresh, in_append, in_cons, in_join, in_join_left, in_none}
use Rattle.krs_walk.proofs.ListsLemmas.{in_head, in_tail, join_fresh, same_tests, Within}
use Rattle.krs_walk.proofs.MarksLemmas.{distinct_push, no_longer, none_twice}
use Rattle.krs_walk.proofs.ReachLemmas.{closes_links, closes_nested, from_levels, nested_fewer, nested_ring, one_more}
use Rattle.krs_keys.specs.declared.key as declared
use Rattle.krs_model.proofs.Reach.Levels.{equal_is, only_in, same_is}
use Rattle.krs_model.proofs.Isolation.Keys.{false_where}
use Rattle.std.proofs.lemmas.Grind.{common_steps}

-- each key of the list is in the levels up to its place
abbrev pub Placed : (ℕ → List ℕ) → ℕ → List ℕ → Type 0
Placed links key all = (i : ℕ) → i < length all → is_in (get_or all i 0) (levels links (key ∷ []) (i + 1)) ≡ true

-- a walk from a key that has examined the first keys of its list, and not come to the goal
pub record IsWalk (links : ℕ → List ℕ) (key goal place : ℕ) (all : List ℕ) : Type 0 where
  pub within : place ≤ length all
  pub start : is_in key all ≡ true
  pub sound : (k : ℕ) → is_in k all ≡ true → ClosesCycle links key k
  pub placed : Placed links key all
  pub covers : Covers links all (take place all)
  pub missed : is_in goal (take place all) ≡ false

taken_more : (all xs : List ℕ) (place : ℕ) → place < length all
    → take (place + 1) (join all xs) ≡ take place all ++ get_or all place 0 ∷ []
taken_more all xs place lt = grind (arith, common_steps, join_fresh, take-append-le, fresh, take_more)

pub in_place : (all : List ℕ) (place : ℕ) → place < length all → is_in (get_or all place 0) all ≡ true
in_place all place lt = grind (arith, common_steps, list_any_at, get_or, same_is)

missed_more : (goal here : ℕ) (passed : List ℕ) → is_in goal passed ≡ false → (here ≡ goal → ⊥)
    → is_in goal (passed ++ here ∷ []) ≡ false
missed_more goal here passed h ne = grind (arith, common_steps, nat_tests, in_append)

in_fresh : (seen xs : List ℕ) (k : ℕ) → is_in k (fresh seen xs) ≡ true → is_in k xs ≡ true
in_fresh seen [] k m = m
in_fresh seen (x ∷ xs) k m =
    elim (is_in x seen) as (λ b. is_in k (cond b (fresh seen xs) (x ∷ fresh (seen ++ x ∷ []) xs)) ≡ true
    → is_in k (x ∷ xs) ≡ true) [
      | true ↦ λ n. in_tail k x xs (in_fresh seen xs k n)
      | false ↦ λ n. ⊎_elim (λ (e : k ≡ x). subst (λ (z : ℕ). is_in z (x ∷ xs) ≡ true) (sym e) (in_head x xs))
          (λ (r : is_in k (fresh (seen ++ x ∷ []) xs) ≡ true). in_tail k x xs (in_fresh (seen ++ x ∷ []) xs k r))
          (in_cons k x (fresh (seen ++ x ∷ []) xs) n)
    ] m

-- what is in the first n levels is in any more
pub levels_up : (links : ℕ → List ℕ) (heads : List ℕ) (k n m : ℕ) → n ≤ m → is_in k (levels links heads n) ≡ true
    → is_in k (levels links heads m) ≡ true
levels_up links heads k n m le h =
    let e : n + (m - n) ≡ m = omega arith in
    subst (λ (z : ℕ). is_in k (levels links heads z) ≡ true) e (levels_on links heads k n (m - n) h)

placed_new : (links : ℕ → List ℕ) (key place i : ℕ) (all : List ℕ) → Placed links key all → place < length all
    → length all ≤ i →
    i < length (all ++ fresh all (links (get_or all place 0))) →
    is_in (get_or (all ++ fresh all (links (get_or all place 0))) i 0) (levels links (key ∷ []) (i + 1)) ≡ true
placed_new links key place i all placed lt le within =
    let here = get_or all place 0 in
    let new = fresh all (links here) in
    let at_new : get_or (all ++ new) i 0 ≡ get_or new (i - length all) 0 =
    get_or-append_right all new (length all) i 0 refl le in
    let sum : length (all ++ new) ≡ length all + length new = length-append all new in
    let small : i - length all < length new = omega arith in
    let linked : is_in (get_or new (i - length all) 0) (links here) ≡ true =
    in_fresh all (links here) (get_or new (i - length all) 0) (in_place new (i - length all) small) in
    let next : is_in (get_or new (i - length all) 0) (levels links (key ∷ []) (suc (place + 1))) ≡ true =
    levels_next links (key ∷ []) (place + 1) here (get_or new (i - length all) 0) (placed place lt) linked in
    let up : suc (place + 1) ≤ i + 1 = omega arith in
    ap (λ (z : ℕ). is_in z (levels links (key ∷ []) (i + 1))) at_new
    ∙ levels_up links (key ∷ []) (get_or new (i - length all) 0) (suc (place + 1)) (i + 1) up next

placed_more : (links : ℕ → List ℕ) (key place : ℕ) (all : List ℕ) → Placed links key all → place < length all
    → Placed links key (all ++ fresh all (links (get_or all place 0)))
placed_more links key place all placed lt i within =
    grind (arith, common_steps, ⊎_elim, get_or_append_left, fresh, get_or, placed_new, cases_lt)

pub walk_goes_on : (links : ℕ → List ℕ) (key goal place : ℕ) (all next : List ℕ) → IsWalk links key goal place all
    → place < length all → (get_or all place 0 ≡ goal → ⊥) → next ≡ join all (links (get_or all place 0))
    → IsWalk links key goal (place + 1) next
walk_goes_on links key goal place all next w lt ne e =
    let here = get_or all place 0 in
    let more = ap (take (place + 1)) e ∙ taken_more all (links here) place lt in
    let grown : length next ≡ length all + length (fresh all (links here)) =
    ap length (e ∙ join_fresh all (links here)) ∙ length-append all (fresh all (links here)) in
    record {
      within = omega arith;
      start = ap (is_in key) e ∙ in_join_left all (links here) key w.start;
      sound = λ k m. ⊎_elim (λ (l : is_in k all ≡ true). w.sound k l)
          (λ (r : is_in k (links here) ≡ true). inr (one_more links key here k
          (w.sound here (in_place all place lt)) r))
          (in_join all (links here) k (ap (is_in k) (sym e) ∙ m));
      placed = subst (Placed links key) (sym (e ∙ join_fresh all (links here)))
          (placed_more links key place all w.placed lt);
      covers = subst (λ (zs : List ℕ). Covers links zs (take (place + 1) next)) (sym e)
          (subst (λ (zs : List ℕ). Covers links (join all (links here)) zs) (sym more)
          (covers_more links all (take place all) here w.covers));
      missed = ap (is_in goal) more ∙ missed_more goal here (take place all) w.missed ne;
    }

placed_start : (links : ℕ → List ℕ) (key : ℕ) → Placed links key (key ∷ [])
unfolding level levels
placed_start links key i lt = grind (arith, common_steps, get_or, in_head)

-- a walk begins
pub walk_starts : (links : ℕ → List ℕ) (key goal : ℕ) (all : List ℕ) → all ≡ key ∷ [] → IsWalk links key goal 0 all
walk_starts links key goal all e = grind (arith, common_steps, in_head, only_in, placed_start, in_none)

closed_reach : (links : ℕ → List ℕ) (key k : ℕ) (all : List ℕ) → Covers links all all → is_in key all ≡ true
    → Reaches links key k → is_in k all ≡ true
closed_reach links _ _ all c s (Directly j k h) = c j s k h
closed_reach links _ _ all c s (Further j k l p h) = c k (closed_reach links j k all c s p) l h

-- a walk that has examined its whole list has come to all that is reached
pub walk_misses : (links : ℕ → List ℕ) (key goal place : ℕ) (all : List ℕ) → IsWalk links key goal place all
    → length all ≤ place → ClosesCycle links key goal → ⊥
walk_misses links key goal place all w le closes =
    grind (arith, common_steps, take_all, ⊎_elim, true≢false, closed_reach)

pub walk_finds : (links : ℕ → List ℕ) (key goal place : ℕ) (all : List ℕ) → IsWalk links key goal place all
    → place < length all → get_or all place 0 ≡ goal → ClosesCycle links key goal
walk_finds links key goal place all w lt e = grind (arith, common_steps, get_or, in_place)

-- the serials that have a key
abbrev serials_of : Table Key → List ℕ
serials_of keys = map (λ (e : ℕ × Key). e.0) keys

there_listed : (keys : Table Key) (k : ℕ) → is_some (at keys k) ≡ true → is_in k (serials_of keys) ≡ true
there_listed [] k h = h
there_listed (e ∷ es) k h =
    elim (is_at (nat_cmp k) e.0) as (λ b. is_at (nat_cmp k) e.0 ≡ b → is_some (cond b (Some e.1) (at es k)) ≡ true
    → is_in k (e.0 ∷ serials_of es) ≡ true) [
      | true ↦ λ t n. subst (λ (z : ℕ). is_in z (e.0 ∷ serials_of es) ≡ true) (sym (same_at k e.0 t))
          (in_head e.0 (serials_of es))
      | false ↦ λ t n. in_tail k e.0 (serials_of es) (there_listed es k n)
    ] refl h

ring_there : (o : Option Key) → is_ring o ≡ true → is_some o ≡ true
ring_there None h = h
ring_there (Some key) h = refl

reached_there : (keys : Table Key) (key k : ℕ) → is_some (at keys key) ≡ true → ClosesCycle (nested_in keys) key k
    → is_some (at keys k) ≡ true
reached_there keys key k there (inl e) = subst (λ (z : ℕ). is_some (at keys z) ≡ true) e there
reached_there keys _ _ there (inr (Directly j k h)) = ring_there (at keys k) (nested_ring keys j k h)
reached_there keys _ _ there (inr (Further j k l p h)) = ring_there (at keys l) (nested_ring keys k l h)

-- a walk of nested keyrings comes to at most as many as there are keys
few_keys : (keys : Table Key) (key goal place : ℕ) (all : List ℕ) → is_some (at keys key) ≡ true
    → IsWalk (nested_in keys) key goal place all → IsDistinct eqb all → length all ≤ length keys
few_keys keys key goal place all there w once =
    let listed : Within all (serials_of keys) =
    λ k m. there_listed keys k (reached_there keys key k there (w.sound k m)) in
    subst (λ (n : ℕ). length all ≤ n) (length-map keys (λ (e : ℕ × Key). e.0))
    (no_longer all (serials_of keys) once listed)

-- what it finds closes a cycle
pub found_closes : (keys : Table Key) (key goal place : ℕ) (all : List ℕ) → is_some (at keys key) ≡ true
    → IsWalk (nested_in keys) key goal place all → IsDistinct eqb all → place < length all → get_or all place 0 ≡ goal
    → closes keys key goal ≡ true
unfolding closes
found_closes keys key goal place all there w once lt e =
    let few : length all ≤ length keys = few_keys keys key goal place all there w once in
    let up : place + 1 ≤ length keys = omega arith in
    let here : is_in goal (levels (nested_in keys) (key ∷ []) (place + 1)) ≡ true =
    subst (λ (z : ℕ). is_in z (levels (nested_in keys) (key ∷ []) (place + 1)) ≡ true) e (w.placed place lt) in
    levels_up (links_of_key_at keys) (key ∷ []) goal (place + 1) (length keys) up
    (levels_fewer (nested_in keys) (links_of_key_at keys) (key ∷ []) (place + 1) goal (nested_fewer keys) here)

pub found_reached : (keys : Table Key) (key goal place : ℕ) (all : List ℕ)
    → IsWalk (nested_in keys) key goal place all → place < length all → get_or all place 0 ≡ goal
    → ClosesCycle (links_of_key_at keys) key goal
found_reached keys key goal place all w lt e = grind (arith, common_steps, closes_links, walk_finds)

-- what it misses closes none
pub missed_reached : (keys : Table Key) (key goal place : ℕ) (all : List ℕ) → OnlyRingsLink keys
    → is_ring (at keys goal) ≡ true → IsWalk (nested_in keys) key goal place all → length all ≤ place
    → ClosesCycle (links_of_key_at keys) key goal → ⊥
missed_reached keys key goal place all only ring w le closing =
    walk_misses (nested_in keys) key goal place all w le (closes_nested keys key goal only ring closing)

pub missed_closes : (keys : Table Key) (key goal place : ℕ) (all : List ℕ) → OnlyRingsLink keys
    → is_ring (at keys goal) ≡ true → IsWalk (nested_in keys) key goal place all → length all ≤ place
    → closes keys key goal ≡ false
unfolding closes
missed_closes keys key goal place all only ring w le =
    grind (arith, common_steps, false_where, missed_reached, from_levels)

-- a test of two serials that fails tells them apart
pub apart_of : (found goal here : ℕ) (test : Bool) → test ≡ (found == goal) → test ≡ false → found ≡ here
    → (here ≡ goal → ⊥)
apart_of found goal here test is failed same e = true≢false (sym (same_is found goal (same ∙ e)) ∙ (sym is ∙ failed))

pub same_of : (found goal here : ℕ) (test : Bool) → test ≡ (found == goal) → test ≡ true → found ≡ here → here ≡ goal
same_of found goal here test is passed same = sym same ∙ equal_is found goal (sym is ∙ passed)

-- a walk from a key that links no keyring has nothing else to examine
pub leaf_misses : (links : ℕ → List ℕ) (key goal : ℕ) → links key ≡ [] → (key ≡ goal → ⊥)
    → IsWalk links key goal 1 (key ∷ [])
leaf_misses links key goal leaf apart =
    walk_goes_on links key goal 0 (key ∷ []) (key ∷ []) (walk_starts links key goal (key ∷ []) refl) (omega arith)
    apart (sym (ap (join (key ∷ [])) leaf))

-- a key closes a cycle with itself
pub self_closes : (keys : Table Key) (key goal : ℕ) → is_some (at keys key) ≡ true → key ≡ goal
    → closes keys key goal ≡ true
self_closes keys key goal there e =
    found_closes keys key goal 0 (key ∷ []) there (walk_starts (nested_in keys) key goal (key ∷ []) refl)
    (distinct_push [] key (none_twice [] refl) refl) (omega arith) e

-- the levels from a key, as many as there are keys, have what is reached from it
within_reached : (keys : Table Key) (key ring : ℕ) → OnlyRingsLink keys → is_some (at keys key) ≡ true
    → is_ring (at keys ring) ≡ true → ClosesCycle (links_of_key_at keys) key ring
    → is_nested_within keys ring (length keys) key ≡ true
within_reached keys key ring only there is closing =
    let closed : IsClosed (nested_in keys) (keys_of keys) =
    λ j k i h. there_in keys k (ring_there (at keys k) (nested_ring keys j k h)) in
    let found = closed_levels (nested_in keys) (keys_of keys) key ring (there_in keys key there) closed
    (closes_nested keys key ring only is closing) in
    subst (λ (n : ℕ). is_in ring (levels (nested_in keys) (key ∷ []) n) ≡ true) (length-map keys (λ e. e.0)) found

reached_within : (keys : Table Key) (key ring n : ℕ) → is_nested_within keys ring n key ≡ true
    → ClosesCycle (links_of_key_at keys) key ring
reached_within keys key ring n m = closes_links keys key ring (from_levels (nested_in keys) key n ring m)

-- so they tell whether a cycle is closed
pub within_closes : (keys : Table Key) (key ring n : ℕ) → OnlyRingsLink keys → is_some (at keys key) ≡ true
    → is_ring (at keys ring) ≡ true → n ≡ length keys → is_nested_within keys ring n key ≡ closes keys key ring
unfolding closes
within_closes keys key ring n only there is all =
    grind (arith, common_steps, same_tests, levels_fewer, nested_fewer, within_reached, from_levels)

pub within_reaches : (keys : Table Key) (key ring n : ℕ) → OnlyRingsLink keys → is_some (at keys key) ≡ true
    → is_ring (at keys ring) ≡ true → n ≡ length keys
    → (is_nested_within keys ring n key ≡ true) ↔ ClosesCycle (links_of_key_at keys) key ring
within_reaches keys key ring n only there is all = grind (arith, common_steps, reached_within, within_reached)

pub shown_length : (keys : Table declared.Key.Key) → length (shown keys) ≡ length keys
shown_length keys = length-map keys (λ (e : ℕ × declared.Key.Key). (e.0, seen e.1))
