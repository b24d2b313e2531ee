-- What a client does with what makes connections to paths: keyretain(1), "DESCRIPTION".
use Rattle.std.specs.Prelude.{◌≡◌, List, Option, ℕ}

-- what may have become of it, from one state to another: nothing; it was told once to connect, to this path, and there
-- was no connection; or it made one, to this path and no other, and closed it, and this was done in between: by what
-- the end to write to held at first and at last, and what the end to read from had left at first
pub record Connecting : Type 1 where
  pub unasked : Type 0
  pub failed : (path : List ℕ) → Type 0
  pub over : (path : List ℕ) → (Option (List ℕ) → Option (List ℕ) → Option (List ℕ) → Type 0) → Type 0

abbrev pub connecting : {C F T : Type 0} → (C → List ℕ → F → T → C → Type 0) → (C → List ℕ → C → Type 0)
    → (C → F → T → C → Type 0) → (F → Option (List ℕ)) → (T → Option (List ℕ)) → C → C → Connecting
connecting {C = C} {F = F} {T = T} made failed closed remaining contents old new = record {
  unasked = new ≡ old;
  failed = λ path. failed old path new;
  over = λ path does.
      (mid : C) × (from0 : F) × (to0 : T) × (from1 : F) × (to1 : T)
      × made old path from0 to0 mid × closed mid from1 to1 new × does (contents to0) (contents to1) (remaining from0);
}
