-- Layers of nested keyrings, as a walk makes them, and what they say of the height.
use Rattle.std.proofs.Common.{[], ◌++◌, ◌+◌, ◌-◌, ◌<◌, ◌==◌, ◌∷◌, ◌≡◌, ◌≤◌, ap, arith, false, flat_map, get_or}
use Rattle.std.proofs.Common.{length, List, refl, subst, suc, take, true, true≢false, zero, ℕ}
use Rattle.std.proofs.lemmas.{Bool.Decides.nat_tests, List.{flat_map_more, take_more}}
use native.Mathlib.Numerals.{unary_clauses}
use Rattle.krs_model.specs.{Levels.level, Reach.{has_chain, is_some_in, nested_in}, State.Key, Table.Table}
use Rattle.krs_model.proofs.Reach.Levels.{level_more}
use Rattle.krs_walk.specs.{Lists.join, Walks.IsHeight}
use Rattle.krs_walk.proofs.{LevelsLemmas.follow_fresh, ListsLemmas.{in_none, join_append, join_fresh}}
use Rattle.std.proofs.lemmas.Grind.{common_steps}

-- the links of one keyring more of a layer
pub layer_more : (f : ℕ → List ℕ) (layer all next : List ℕ) (i : ℕ) → i < length layer
    → all ≡ join [] (flat_map f (take i layer)) → next ≡ join all (f (get_or layer i 0))
    → next ≡ join [] (flat_map f (take (i + 1) layer))
layer_more f layer all next i lt h e =
    grind (arith, common_steps, get_or, join_append, flat_map, flat_map_more, take_more)

-- each of a level once
abbrev pub IsLayer : (ℕ → List ℕ) → List ℕ → ℕ → List ℕ → Type 0
IsLayer links heads n layer = layer ≡ join [] (level links heads n)

pub layer_starts : (links : ℕ → List ℕ) (key : ℕ) (layer : List ℕ) → layer ≡ key ∷ []
    → IsLayer links (key ∷ []) 0 layer
unfolding level
layer_starts links key layer e = e

pub layer_next : (links : ℕ → List ℕ) (heads : List ℕ) (n : ℕ) (layer next : List ℕ) → IsLayer links heads n layer
    → next ≡ join [] (flat_map links layer) → IsLayer links heads (n + 1) next
layer_next links heads n layer next h e =
    grind (arith, common_steps, flat_map, join_fresh, follow_fresh, in_none, level_more)

some_joined : (xs : List ℕ) → is_some_in (join [] xs) ≡ is_some_in xs
some_joined [] = refl
some_joined (x ∷ xs) = ap is_some_in (join_fresh (x ∷ []) xs)

some_length : (xs : List ℕ) → (length xs == 0) ≡ false → is_some_in xs ≡ true
some_length [] h = absurd (true≢false h)
some_length (x ∷ xs) h = refl

none_length : (xs : List ℕ) → (length xs == 0) ≡ true → is_some_in xs ≡ false
none_length [] h = refl
none_length (x ∷ xs) h = let no : 0 < length (x ∷ xs) = omega arith in absurd (grind (arith, nat_tests))

-- a layer with a keyring has a chain
pub layer_chain : (keys : Table Key) (key n : ℕ) (layer : List ℕ) → IsLayer (nested_in keys) (key ∷ []) n layer
    → (length layer == 0) ≡ false → has_chain keys key n ≡ true
unfolding has_chain
layer_chain keys key n layer h some = grind (arith, common_steps, some_joined, some_length)

-- one with none has none
pub layer_ends : (keys : Table Key) (key n : ℕ) (layer : List ℕ) → IsLayer (nested_in keys) (key ∷ []) n layer
    → (length layer == 0) ≡ true → has_chain keys key n ≡ false
unfolding has_chain
layer_ends keys key n layer h none = grind (arith, common_steps, some_joined, none_length)

none_flat : (links : ℕ → List ℕ) (xs : List ℕ) → is_some_in xs ≡ false → is_some_in (flat_map links xs) ≡ false
none_flat links [] h = h
none_flat links (x ∷ xs) h = absurd (true≢false h)

none_on : (keys : Table Key) (key n m : ℕ) → has_chain keys key n ≡ false → has_chain keys key (n + m) ≡ false
unfolding has_chain level
none_on keys key n zero h = simp unary_clauses h
none_on keys key n (suc m) h =
    simp unary_clauses (none_flat (nested_in keys) (level (nested_in keys) (key ∷ []) (n + m))
    (none_on keys key n m h))

-- and no longer one
pub none_longer : (keys : Table Key) (key n m : ℕ) → n ≤ m → has_chain keys key n ≡ false
    → has_chain keys key m ≡ false
none_longer keys key n m le h =
    let e : n + (m - n) ≡ m = omega arith in
    subst (λ (z : ℕ). has_chain keys key z ≡ false) e (none_on keys key n (m - n) h)

-- a key that links no keyring
pub leaf_height : (keys : Table Key) (key : ℕ) → nested_in keys key ≡ [] → IsHeight keys key 0
unfolding has_chain level
leaf_height keys key leaf = record { chain = refl; longest = ap (λ (zs : List ℕ). is_some_in (zs ++ [])) leaf }
