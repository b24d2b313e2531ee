-- Which asks were passed on, and which of them get EPERM.
use Rattle.std.specs.Prelude.{[], ◌%◌, ◌&&◌, ◌++◌, ◌+◌, ◌-◌, ◌<◌, ◌==◌, ◌∷◌, ◌≡◌, ◌≤◌, ◌⊎◌, Bool, false, length, List}
use Rattle.std.specs.Prelude.{min, nat_lt, slice_index, slice_set, suc, true, zero, ℕ}
use Rattle.krs_screen.specs.declared.counting.Screen.{Screen}

-- counting stops at the greatest number; a reply is a fault then
abbrev pub next : ℕ → ℕ
next n = min (n + 1) 18446744073709551615

-- an ask was passed on, but for so many bytes that are still to come
abbrev pub asked_more : Screen → ℕ → Screen
asked_more s left = record s { asked = next s.asked; ask_left = left }

-- the ask that comes next gets EPERM
abbrev pub refused_next : Screen → Screen
refused_next s = record s {
  refused = slice_set s.refused ((s.first % 64 + s.count) % 64) (next s.asked);
  count = s.count + 1;
}

-- the next reply is to an ask that gets EPERM
abbrev pub is_refused : Screen → Bool
is_refused s = nat_lt 0 s.count && (slice_index s.refused (s.first % 64) == next s.answered)

-- a reply was passed on, but for so many bytes that are still to come
abbrev pub answered_more : Screen → ℕ → Screen
answered_more s left = record s { answered = next s.answered; reply_left = left }

-- the first of the asks that get EPERM has got it
abbrev pub one_forgotten : Screen → Screen
one_forgotten s = record s { first = (s.first % 64 + 1) % 64; count = s.count - 1 }

-- so many numbers of a ring, from a place on
abbrev pub waiting_from : List ℕ → (first count : ℕ) → List ℕ
waiting_from ring first zero = []
waiting_from ring first (suc k) = slice_index ring (first % 64) ∷ waiting_from ring ((first % 64 + 1) % 64) k

-- which asks get EPERM and haven't yet
abbrev pub waiting : Screen → List ℕ
waiting s = waiting_from s.refused s.first s.count

-- an ask that is remembered comes behind the others
abbrev pub EachIsAppended : Type 0
EachIsAppended =
    (s : Screen) → length s.refused ≡ 64 → s.count < 64
    → waiting (refused_next s) ≡ waiting s ++ (next s.asked ∷ [])

-- the next reply gets EPERM where its number is the first of those, which is then forgotten
abbrev pub EachIsTakenInTurn : Type 0
EachIsTakenInTurn =
    (s : Screen) → is_refused s ≡ true
    → waiting s ≡ next s.answered ∷ waiting (one_forgotten s)

-- ascending numbers above one, up to another
abbrev pub Between : (low high : ℕ) → List ℕ → Type 0
Between low high [] = low ≤ high
Between low high (x ∷ xs) = (low < x) × Between x high xs

-- the asks that get EPERM are among those whose replies are to come
abbrev pub IsCounted : Screen → Type 0
IsCounted s = Between s.answered s.asked (waiting s)

abbrev pub Among : ℕ → List ℕ → Type 0
Among n [] = ⊥
Among n (x ∷ xs) = (n ≡ x) ⊎ Among n xs

-- each step keeps that, below the greatest number
abbrev pub most : ℕ
most = 18446744073709551615

abbrev pub EachAskIsCounted : Type 0
EachAskIsCounted = (s : Screen) (left : ℕ) → s.asked < most → IsCounted s → IsCounted (asked_more s left)

abbrev pub EachRefusalIsCounted : Type 0
EachRefusalIsCounted =
    (s : Screen) (left : ℕ) → s.asked < most → length s.refused ≡ 64 → s.count < 64 → IsCounted s
    → IsCounted (asked_more (refused_next s) left)

abbrev pub EachReplyIsCounted : Type 0
EachReplyIsCounted =
    (s : Screen) (left : ℕ) → s.answered < s.asked → s.asked ≤ most → is_refused s ≡ false → IsCounted s
    → IsCounted (answered_more s left)

abbrev pub EachEpermIsCounted : Type 0
EachEpermIsCounted =
    (s : Screen) (left : ℕ) → is_refused s ≡ true → IsCounted s → IsCounted (answered_more (one_forgotten s) left)

-- so a reply gets EPERM where, and only where, its number is among them
abbrev pub EachRefusalGetsEperm : Type 0
EachRefusalGetsEperm =
    (s : Screen) → s.answered < most → IsCounted s → Among (s.answered + 1) (waiting s) → is_refused s ≡ true
