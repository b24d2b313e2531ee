-- Laws of tables: what is at another number after a change, a value that is written back, and one that is changed
-- where it was put.
use Rattle.std.proofs.Common.{[], ⊎_elim, ◌∙◌, ◌∷◌, ◌≡◌, ap, cond, false, is_some, nat_cmp, None, Option, option_map}
use Rattle.std.proofs.Common.{arith, refl, Some, sym, ℕ}
use Rattle.std.specs.BTreeMap.{is_at}
use Rattle.std.specs.{Map.set_value, Ordering.match_ordering, declared.cmp.Ordering.TheVariants.{Equal, Greater, Less}}
use Rattle.std.proofs.lemmas.Bool.{cases_eq}
use Rattle.krs_model.specs.Table.{alter, at, put, Table, without}
use Rattle.krs_model.proofs.Tables.Changes.{alter_some, at_alter_other, at_alter_same, at_put_other, is_at_same}
use Rattle.krs_model.proofs.Tables.Changes.{same_at}
use Rattle.std.proofs.lemmas.Grind.{common_steps}

-- a number is not at another
pub other_at : (q k : ℕ) → (q ≡ k → ⊥) → is_at (nat_cmp q) k ≡ false
other_at q k h = grind (arith, common_steps, nat_cmp, same_at)

pub alter_other : {X : Type 0} (es : Table X) (k q : ℕ) (f : X → X) → (q ≡ k → ⊥) → at (alter es k f) q ≡ at es q
alter_other es k q f n = at_alter_other es k q f (other_at q k n)

pub put_other : {X : Type 0} (es : Table X) (k q : ℕ) (v : X) → (q ≡ k → ⊥) → at (put es k v) q ≡ at es q
put_other es k q v n = at_put_other es k q v (other_at q k n)

pub without_other : {X : Type 0} (es : Table X) (k q : ℕ) → (q ≡ k → ⊥) → at (without es k) q ≡ at es q
without_other [] k q n = refl
without_other (e ∷ es) k q n = grind (arith, common_steps, nat_cmp, cond, other_at, same_at, without_other es k q n)

-- what a change at a number makes of the value there
pub alter_to :
    {X : Type 0} (es : Table X) (k : ℕ) (f : X → X) (v w : X) → at es k ≡ Some v → f v ≡ w
    → alter es k (λ x. w) ≡ alter es k f
alter_to es k f v w h e =
    sym (alter_some es k (λ x. w) v h) ∙ (ap (set_value (is_at (nat_cmp k)) es) (sym e) ∙ alter_some es k f v h)

pub at_some :
    {X : Type 0} (es : Table X) (k : ℕ) (f : X → X) (v : X) → at es k ≡ Some v → at (alter es k f) k ≡ Some (f v)
at_some es k f v e = at_alter_same es k f ∙ ap (option_map f) e

is_some_map : {X : Type 0} (f : X → X) (o : Option X) → is_some (option_map f o) ≡ is_some o
is_some_map f None = refl
is_some_map f (Some x) = refl

-- a change leaves what is there there
pub is_some_alter :
    {X : Type 0} (es : Table X) (k q : ℕ) (f : X → X) → is_some (at (alter es k f) q) ≡ is_some (at es q)
is_some_alter es k q f = grind (arith, common_steps, ⊎_elim, is_some, at_alter_same, is_some_map, alter_other, cases_eq)

-- what is changed where it was put
pub alter_put : {X : Type 0} (es : Table X) (k : ℕ) (v : X) (f : X → X) → alter (put es k v) k f ≡ put es k (f v)
alter_put {X = X} [] k v f = rw (is_at_same k) refl
alter_put {X = X} (e ∷ es) k v f =
    elim (nat_cmp k e.0) as (λ r. nat_cmp k e.0 ≡ r
    → alter (match_ordering r ((k, v) ∷ e ∷ es) ((e.0, v) ∷ es) (e ∷ put es k v)) k f
    ≡ match_ordering r ((k, f v) ∷ e ∷ es) ((e.0, f v) ∷ es) (e ∷ put es k (f v))) [
      | Less ↦ λ t. rw (is_at_same k) refl
      | Equal ↦ λ t. rw t refl
      | Greater ↦ λ t. rw t (ap (λ (zs : Table X). e ∷ zs) (alter_put es k v f))
    ] refl
