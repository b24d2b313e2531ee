-- What is at a number is among the values.
use Rattle.std.proofs.Common.{[], ◌||◌, ◌∙◌, ◌∷◌, ◌≡◌, ap, Bool, cond, false, nat_cmp, Some, true, ℕ}
use Rattle.std.specs.{BTreeMap.is_at, List.list_any, Map.values_of}
use Rattle.std.proofs.lemmas.Option.{none-some, same_Some}
use Rattle.krs_model.specs.Table.{at, Table}
use Rattle.krs_model.proofs.Reach.Levels.{or_true}

-- what is at a number and passes a test is among the values that pass it
pub any_at :
    {X : Type 0} (p : X → Bool) (es : Table X) (k : ℕ) (v : X)
    → at es k ≡ Some v → p v ≡ true → list_any p (values_of es) ≡ true
any_at p [] k v there holds = absurd (none-some v there)
any_at p (e ∷ es) k v there holds =
    elim (is_at (nat_cmp k) e.0) as
    (λ b. cond b (Some e.1) (at es k) ≡ Some v → (p e.1 || list_any p (values_of es)) ≡ true) [
      | true ↦ λ same. ap (λ b. b || list_any p (values_of es)) (ap p (same_Some e.1 v same) ∙ holds)
      | false ↦ λ rest. or_true (p e.1) (list_any p (values_of es)) (any_at p es k v rest holds)
    ] there
