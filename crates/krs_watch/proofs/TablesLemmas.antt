-- Laws of tables for those of queues.
use Rattle.std.proofs.Common.{[], ◌∷◌, ◌≡◌, ap, arith, cond, false, nat_cmp, refl, Some, true, ℕ}
use Rattle.std.specs.BTreeMap.{is_at}
use Rattle.krs_model.specs.Table.{alter, at, Table}

-- two changes that do the same to what is there
pub alter_same : {X : Type 0} (es : Table X) (k : ℕ) (f g : X → X) (v : X) → at es k ≡ Some v → f v ≡ g v →
    alter es k f ≡ alter es k g
alter_same [] k f g v h e = refl
alter_same (d ∷ es) k f g v h e =
    elim (is_at (nat_cmp k) d.0) as (λ b. cond b (Some d.1) (at es k) ≡ Some v
    → cond b ((d.0, f d.1) ∷ es) (d ∷ alter es k f) ≡ cond b ((d.0, g d.1) ∷ es) (d ∷ alter es k g)) [
      | true ↦ λ q. grind (arith, e, q)
      | false ↦ λ q. ap (λ zs. d ∷ zs) (alter_same es k f g v q e)
    ] h

-- a change that leaves what is there
pub alter_still : {X : Type 0} (es : Table X) (k : ℕ) (f : X → X) (v : X) → at es k ≡ Some v → f v ≡ v →
    alter es k f ≡ es
alter_still [] k f v h e = refl
alter_still (d ∷ es) k f v h e =
    elim (is_at (nat_cmp k) d.0) as
    (λ b. cond b (Some d.1) (at es k) ≡ Some v → cond b ((d.0, f d.1) ∷ es) (d ∷ alter es k f) ≡ d ∷ es) [
      | true ↦ λ q. grind (arith, e, q)
      | false ↦ λ q. ap (λ zs. d ∷ zs) (alter_still es k f v q e)
    ] h
