-- What a clock answers that is asked once a second, and that its answers join.
use Rattle.std.specs.Prelude.{[], ◌%◌, ◌++◌, ◌+◌, ◌^◌, ◌∷◌, ◌≡◌, List, refl, ℕ}
use Rattle.std.proofs.Common.{subst, sym}

-- these are the seconds from one to another, each once: after the last that fits 64 bits comes 0
abbrev pub Ticks : ℕ → List ℕ → ℕ → Type 0
Ticks at [] end = at ≡ end
Ticks at (second ∷ seconds) end = (second ≡ at) × Ticks ((at + 1) % 2 ^ 64) seconds end

pub ticks_none : (at : ℕ) → Ticks at [] at
ticks_none at = refl

pub ticks_both : (a b c : ℕ) (xs ys : List ℕ) → Ticks a xs b → Ticks b ys c → Ticks a (xs ++ ys) c
ticks_both a b c [] ys p q = subst (λ (n : ℕ). Ticks n ys c) (sym p) q
ticks_both a b c (x ∷ xs) ys p q = (p.0, ticks_both ((a + 1) % 2 ^ 64) b c xs ys p.1 q)
