-- What a clock answers that keeps its last answer.
use Rattle.std.specs.Prelude.{[], ◌++◌, ◌∷◌, ◌≡◌, ◌≤◌, List, refl, ℕ}
use Rattle.std.proofs.Common.{subst, sym}
use Rattle.krs_listen.specs.declared.clock.DaemonClock.{DaemonClock}

-- its last answer
abbrev pub last_of : {R : Type 0} → DaemonClock R → ℕ
last_of clock = clock.last

-- from one kept answer to another these are the answers, in order: none falls behind the one before it, and the last of
-- them is kept
abbrev pub IsKept : ℕ → List ℕ → ℕ → Type 0
IsKept old [] new = old ≡ new
IsKept old (answer ∷ answers) new = (old ≤ answer) × IsKept answer answers new

pub kept_none : (kept : ℕ) → IsKept kept [] kept
kept_none kept = refl

pub kept_both : (a b c : ℕ) (xs ys : List ℕ) → IsKept a xs b → IsKept b ys c → IsKept a (xs ++ ys) c
kept_both a b c [] ys p q = subst (λ (n : ℕ). IsKept n ys c) (sym p) q
kept_both a b c (x ∷ xs) ys p q = (p.0, kept_both x b c xs ys p.1 q)
