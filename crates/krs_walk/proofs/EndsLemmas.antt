-- Where the levels of a walk end.
use Rattle.std.proofs.Common.{[], ◌++◌, ◌∙◌, ◌∷◌, ◌≡◌, ap, append-nil, arith, Bool, false, flat_map, List, suc, ℕ}
use Rattle.std.specs.List.{list_any}
use Rattle.krs_model.specs.Levels.{level, levels, search_depth}
use Rattle.krs_walk.proofs.DepthLemmas.{any_heads}
use Rattle.std.proofs.lemmas.Grind.{common_steps}

-- behind an empty level there is no other
level_ends : (f : ℕ → List ℕ) (heads : List ℕ) (n : ℕ) → level f heads n ≡ [] → level f heads (suc n) ≡ []
unfolding level
level_ends f heads n none = ap (flat_map f) none

levels_end : (f : ℕ → List ℕ) (heads : List ℕ) (n : ℕ) → level f heads n ≡ []
    → levels f heads (suc n) ≡ levels f heads n
unfolding levels
levels_end f heads n none = ap (λ (zs : List ℕ). levels f heads n ++ zs) none ∙ append-nil (levels f heads n)

level_two : (f : ℕ → List ℕ) (heads : List ℕ) → flat_map f (flat_map f heads) ≡ [] → level f heads 2 ≡ []
unfolding level
level_two f heads none = none

-- so where level 2 is empty, what doesn't pass before it doesn't pass at all
pub near_is_all : (p : ℕ → Bool) (f : ℕ → List ℕ) (heads : List ℕ) → flat_map f (flat_map f heads) ≡ []
    → list_any (λ j. list_any p (levels f (j ∷ []) 2)) heads ≡ false → list_any p (levels f heads search_depth) ≡ false
near_is_all p f heads none fails = grind (arith, common_steps, level_two, level_ends, levels_end, any_heads)
