-- What holds of each value of a table holds after a change too.
use Rattle.std.proofs.Common.{⊎_elim, ◌∙◌, ◌≡◌, ◌⊎◌, arith, Bool, cond, false, filter, None, Option, option_map, refl}
use Rattle.std.proofs.{Common.{Some, sym, true, ℕ}, lemmas.{Bool.Decides.nat_tests, Option.none-some}}
use Rattle.std.proofs.lemmas.Option.{same_Some}
use Rattle.krs_model.specs.Table.{alter, at, map_values, put, Table}
use Rattle.krs_model.proofs.Tables.Changes.{at_alter_other, at_alter_same, at_kept, at_map, at_or_apart, at_put_other}
use Rattle.krs_model.proofs.Tables.Changes.{at_put_same}
use Rattle.std.proofs.lemmas.Grind.{common_steps}

-- a value that is there once it was changed was there
pub mapped_is :
    {X Y : Type 0} (f : X → Y) (o : Option X) (after : Y) → option_map f o ≡ Some after
    → (v : X) × (o ≡ Some v) × (f v ≡ after)
mapped_is f None after h = absurd (none-some after h)
mapped_is f (Some v) after h = (v, refl, same_Some (f v) after h)

pub kept_is : {X : Type 0} (b : Bool) (o : Option X) (v : X) → cond b o None ≡ Some v → o ≡ Some v
kept_is true o v h = h
kept_is false o v h = absurd (none-some v h)

-- what is there once a value was put is that, or was there
pub put_is :
    {X : Type 0} (es : Table X) (n k : ℕ) (new v : X) → at (put es n new) k ≡ Some v → (new ≡ v) ⊎ (at es k ≡ Some v)
put_is es n k new v there = grind (arith, nat_tests, same_Some, at_put_same, at_put_other, at_or_apart)

abbrev pub Every : {X : Type 0} → (X → Type 0) → Table X → Type 0
Every {X} P es = (k : ℕ) (v : X) → at es k ≡ Some v → P v

pub every_put :
    {X : Type 0} (P : X → Type 0) (es : Table X) (n : ℕ) (new : X) → P new → Every P es → Every P (put es n new)
every_put P es n new holds all k v there = grind (arith, common_steps, ⊎_elim, put_is)

pub every_alter :
    {X : Type 0} (P : X → Type 0) (es : Table X) (n : ℕ) (f : X → X)
    → ((v : X) → at es n ≡ Some v → P v → P (f v)) → Every P es → Every P (alter es n f)
every_alter P es n f stays all k v there =
    grind (arith, nat_tests, mapped_is, at_alter_same, at_alter_other, at_or_apart)

pub every_map :
    {X : Type 0} (P : X → Type 0) (es : Table X) (f : X → X) → ((v : X) → P v → P (f v)) → Every P es
    → Every P (map_values f es)
every_map P es f stays all k v there = grind (arith, common_steps, mapped_is, at_map)

pub every_kept :
    {X : Type 0} (P : X → Type 0) (es : Table X) (kept : ℕ → Bool) → Every P es → Every P (filter (λ e. kept e.0) es)
every_kept P es kept all k v there = all k v (kept_is (kept k) (at es k) v (sym (at_kept kept es k) ∙ there))
