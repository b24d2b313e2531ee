-- The ring of asks that get EPERM is a queue.
use Rattle.std.proofs.Common.{[], ◌%◌, ◌&&◌, ◌++◌, ◌+◌, ◌-◌, ◌<◌, ◌==◌, ◌∙◌, ◌∷◌, ◌≡◌, ◌≢◌, add-one, ap, arith, length}
use Rattle.std.proofs.Common.{List, nat_lt, slice_index, slice_set, subst, suc, true, zero, ℕ}
use Rattle.std.proofs.lemmas.{Bool.Decides.nat_tests, Grind.common_steps}
use Rattle.krs_screen.specs.Counting.{is_refused, next, one_forgotten, refused_next, waiting, waiting_from}
use Rattle.krs_screen.specs.declared.counting.Screen.{Screen}

here : (ring : List ℕ) (i j x : ℕ) → length ring ≡ 64 → i ≡ j → j < 64 → slice_index (slice_set ring i x) j ≡ x
here ring i j x long is less = grind (arith, common_steps)

there : (ring : List ℕ) (i j x : ℕ) → i ≢ j → slice_index (slice_set ring i x) j ≡ slice_index ring j
there ring i j x other = grind (arith, common_steps)

put_behind : (ring : List ℕ) (first k x : ℕ) → length ring ≡ 64 → k < 64
    → waiting_from (slice_set ring ((first % 64 + k) % 64) x) first (suc k) ≡ waiting_from ring first k ++ (x ∷ [])
put_behind ring first zero x long less = grind (arith, common_steps, here)
put_behind ring first (suc k) x long less =
    let i : ℕ = (first % 64 + suc k) % 64 in
    let second : ℕ = (first % 64 + 1) % 64 in
    let place : (second % 64 + k) % 64 ≡ i = omega arith in
    let head : slice_index (slice_set ring i x) (first % 64) ≡ slice_index ring (first % 64) =
    there ring i (first % 64) x (λ e. omega arith) in
    let step = put_behind ring second k x long (omega arith) in
    let tail : waiting_from (slice_set ring i x) second (suc k) ≡ waiting_from ring second k ++ (x ∷ []) =
    subst (λ j. waiting_from (slice_set ring j x) second (suc k) ≡ waiting_from ring second k ++ (x ∷ [])) place step in
    ap (λ n. n ∷ waiting_from (slice_set ring i x) second (suc k)) head
    ∙ ap (λ ns. slice_index ring (first % 64) ∷ ns) tail

pub appended : (s : Screen) → length s.refused ≡ 64 → s.count < 64
    → waiting (refused_next s) ≡ waiting s ++ (next s.asked ∷ [])
appended s long room = rw (add-one s.count) (put_behind s.refused s.first s.count (next s.asked) long room)

from_some : (ring : List ℕ) (first count x : ℕ) → (nat_lt 0 count && (slice_index ring (first % 64) == x)) ≡ true
    → waiting_from ring first count ≡ x ∷ waiting_from ring ((first % 64 + 1) % 64) (count - 1)
from_some ring first zero x e = absurd cc
from_some ring first (suc k) x e = grind (arith, common_steps, slice_index, nat_tests)

pub taken : (s : Screen) → is_refused s ≡ true → waiting s ≡ next s.answered ∷ waiting (one_forgotten s)
taken s is = from_some s.refused s.first s.count (next s.answered) is
