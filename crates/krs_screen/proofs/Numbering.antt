-- A reply gets EPERM where, and only where, its number is that of an ask that was made void.
use Rattle.std.proofs.Common.{[], ◌%◌, ◌&&◌, ◌++◌, ◌+◌, ◌<◌, ◌==◌, ◌∷◌, ◌≡◌, ◌≢◌, ◌≤◌, ap, arith, false, inl, inr}
use Rattle.std.proofs.Common.{length, List, nat_lt, slice_index, suc, sym, true, zero, ℕ}
use Rattle.std.proofs.lemmas.Bool.{Decides.nat_tests, true≢false}
use Rattle.krs_screen.specs.Counting.{Among, answered_more, asked_more, Between, is_refused, IsCounted, most, next}
use Rattle.krs_screen.specs.Counting.{one_forgotten, refused_next, waiting, waiting_from}
use Rattle.krs_screen.specs.declared.counting.Screen.{Screen}
use Rattle.krs_screen.proofs.Queueing.{appended, taken}
use Rattle.std.proofs.lemmas.Grind.{common_steps}

pub next_is : (n : ℕ) → n < most → next n ≡ n + 1
next_is n h = omega (arith, h)

higher : (low high more : ℕ) (xs : List ℕ) → high ≤ more → Between low high xs → Between low more xs
higher low high more [] h b = omega (arith, h, b)
higher low high more (x ∷ xs) h b = (b.0, higher x high more xs h b.1)

behind : (low high : ℕ) (xs : List ℕ) → Between low high xs → Between low (high + 1) (xs ++ ((high + 1) ∷ []))
behind low high [] b = (omega (arith, b), omega arith)
behind low high (x ∷ xs) b = (b.0, behind x high xs b.1)

pub ask_counted : (s : Screen) (left : ℕ) → s.asked < most → IsCounted s → IsCounted (asked_more s left)
ask_counted s left h b = higher s.answered s.asked (next s.asked) (waiting s) (omega (arith, next_is s.asked h)) b

pub refusal_counted : (s : Screen) (left : ℕ) → s.asked < most → length s.refused ≡ 64 → s.count < 64 → IsCounted s
    → IsCounted (asked_more (refused_next s) left)
refusal_counted s left h long room b = grind (arith, common_steps, appended, next_is, behind)

lower : (low high : ℕ) (xs : List ℕ) → low < high → Between low high xs → ((rest : List ℕ) → xs ≡ (low + 1) ∷ rest → ⊥)
    → Between (low + 1) high xs
lower low high [] h b other = omega (arith, h)
lower low high (x ∷ xs) h b other =
    let apart : x ≢ low + 1 = λ e. other xs (rw e) in (omega (arith, b.0, apart), b.1)

pub first_is : (ring : List ℕ) (first count n : ℕ) (rest : List ℕ) → waiting_from ring first count ≡ n ∷ rest
    → (nat_lt 0 count && (slice_index ring (first % 64) == n)) ≡ true
first_is ring first zero n rest e = absurd cc
first_is ring first (suc k) n rest e = grind (arith, nat_tests)

pub reply_counted : (s : Screen) (left : ℕ) → s.answered < s.asked → s.asked ≤ most → is_refused s ≡ false → IsCounted s
    → IsCounted (answered_more s left)
reply_counted s left h small isnt b = grind (arith, common_steps, next_is, lower, true≢false, first_is)

pub eperm_counted : (s : Screen) (left : ℕ) → is_refused s ≡ true → IsCounted s
    → IsCounted (answered_more (one_forgotten s) left)
eperm_counted s left is b = (rw (taken s is) at b).1

above : (low high n : ℕ) (xs : List ℕ) → Between low high xs → Among n xs → low < n
above low high n [] b a = absurd a
above low high n (x ∷ xs) b a = elim a [
  | inl here ↦ omega (arith, b.0, here)
  | inr later ↦ let h = above x high n xs b.1 later in omega (arith, b.0, h)
]

head_of : (low high : ℕ) (xs : List ℕ) → Between low high xs → Among (low + 1) xs
    → (rest : List ℕ) × (xs ≡ (low + 1) ∷ rest)
head_of low high [] b a = absurd a
head_of low high (x ∷ xs) b a = elim a [
  | inl here ↦ (xs, ap (λ y. y ∷ xs) (sym here))
  | inr later ↦ let h = above x high (low + 1) xs b.1 later in absurd (omega (arith, b.0, h))
]

pub gets_eperm : (s : Screen) → s.answered < most → IsCounted s → Among (s.answered + 1) (waiting s)
    → is_refused s ≡ true
gets_eperm s less b a = grind (arith, common_steps, head_of, first_is, next_is)
