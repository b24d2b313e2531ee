-- What a hint that the keys bear out shows of the levels below an attached keyring.
use Rattle.std.proofs.Common.{[], ◌+◌, ◌∙◌, ◌∷◌, ◌≡◌, ◌≤◌, ap, arith, Bool, false, List, suc, sym, true, ℕ}
use Rattle.std.specs.List.{list_any}
use Rattle.krs_model.specs.Levels.{is_in, level, levels}
use Rattle.krs_walk.specs.Seeking.{heads, is_linked_anywhere, nested, one_links}
use Rattle.krs_walk.specs.declared.possession.Sought.{Sought}
use Rattle.krs_walk.proofs.DepthLemmas.{any_deeper, any_heads}
use Rattle.krs_walk.proofs.{ListsLemmas.{any_at, or_left}, RoundsLemmas.any_up}
use Rattle.krs_model.proofs.Reach.Levels.{or_true}
use Rattle.std.proofs.lemmas.Grind.{common_steps}

-- a keyring that passes does so on its own level
pub at_once : (p : ℕ → Bool) (f : ℕ → List ℕ) (k : ℕ) → p k ≡ true → list_any p (levels f (k ∷ []) 1) ≡ true
unfolding level levels
at_once p f k h = or_left (p k) false h

pub one_level_more : (p : ℕ → Bool) (f : ℕ → List ℕ) (k n : ℕ) → list_any p (levels f (k ∷ []) n) ≡ true
    → list_any p (levels f (k ∷ []) (n + 1)) ≡ true
one_level_more p f k n h = grind (arith, common_steps, any_up)

-- what passes on the levels of a keyring passes on one level more of one that nests it
pub from_nested : (p : ℕ → Bool) (f : ℕ → List ℕ) (above k n : ℕ) → is_in k (f above) ≡ true
    → list_any p (levels f (k ∷ []) n) ≡ true → list_any p (levels f (above ∷ []) (n + 1)) ≡ true
from_nested p f above k n nested h =
    let one : n + 1 ≡ suc n = omega arith in
    let below = list_any (λ j. list_any p (levels f (j ∷ []) n)) (f above) in
    ap (λ (m : ℕ). list_any p (levels f (above ∷ []) m)) one
    ∙ (any_deeper p f above n ∙ or_true (p above) below
    (any_at (λ j. list_any p (levels f (j ∷ []) n)) k (f above) nested h))

-- what passes within some levels of one of these does so within more
pub within_more : (p : ℕ → Bool) (f : ℕ → List ℕ) (heads : List ℕ) (n m : ℕ) → n ≤ m
    → list_any (λ j. list_any p (levels f (j ∷ []) n)) heads ≡ true
    → list_any (λ j. list_any p (levels f (j ∷ []) m)) heads ≡ true
within_more p f heads n m up h =
    sym (any_heads p f heads m) ∙ any_up p f heads n m up (any_heads p f heads n ∙ h)

-- what the two nearest levels link is linked
pub near_linked : (s : Sought) → one_links s 2 (heads s) ≡ true → is_linked_anywhere s ≡ true
near_linked s near = grind (arith, common_steps, any_up, any_heads)
