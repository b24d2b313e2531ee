-- Laws of marks, and how many serials a list has that has none twice.
use Rattle.std.proofs.Common.{[], ◌++◌, ◌==◌, ◌∙◌, ◌∷◌, ◌≡◌, ◌≤◌, arith, cond, eqb, false, length, List, refl, ℕ}
use Rattle.std.specs.List.{IsDistinct, list_any}
use Rattle.std.proofs.lemmas.Bool.Decides.{nat_tests}
use Rattle.std.proofs.lemmas.{Cmp.nat_eq_equiv, Map.{Keys.IsDistinct-push, Made.length-le_from_is_member}}
use Rattle.krs_model.specs.Levels.{is_in}
use Rattle.krs_walk.proofs.ListsLemmas.{Within}
use Rattle.std.proofs.lemmas.Grind.{common_steps}

pub none_twice : (keys : List ℕ) → keys ≡ [] → IsDistinct eqb keys
unfolding IsDistinct
none_twice keys e = rw e tt

swapped : (x k : ℕ) → (x == k) ≡ (k == x)
swapped x k = grind (arith, nat_tests)

-- the test of a member, with its sides changed
pub member_is_in : (k : ℕ) (keys : List ℕ) → list_any (eqb k) keys ≡ is_in k keys
member_is_in k [] = refl
member_is_in k (x ∷ keys) = grind (arith, common_steps, eqb, swapped, member_is_in k keys)

-- one more that isn't there yet, by the set's own test
pub put_new : (keys : List ℕ) (number key : ℕ) → number ≡ key → is_in key keys ≡ false
    → cond (list_any (eqb number) keys) keys (keys ++ number ∷ []) ≡ keys ++ key ∷ []
put_new keys number key e h = grind (arith, common_steps, eqb, member_is_in)

pub distinct_push : (keys : List ℕ) (key : ℕ) → IsDistinct eqb keys → is_in key keys ≡ false
    → IsDistinct eqb (keys ++ key ∷ [])
distinct_push keys key d h = IsDistinct-push nat_eq_equiv keys key d (member_is_in key keys ∙ h)

-- a list that has no serial twice is no longer than one that has each of its serials
pub no_longer : (xs ys : List ℕ) → IsDistinct eqb xs → Within xs ys → length xs ≤ length ys
no_longer xs ys d within = grind (arith, common_steps, length-le_from_is_member, nat_eq_equiv, member_is_in)
