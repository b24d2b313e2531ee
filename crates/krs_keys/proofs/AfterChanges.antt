-- What is told of the key at each serial, after a change of the table.
use Rattle.std.proofs.Common.{◌∙◌, ◌≡◌, ap, Bool, cond, false, nat_cmp, nat_eq, None, Option, option_map, refl, Some}
use Rattle.std.proofs.Common.{sym, true, ℕ}
use Rattle.std.specs.{BTreeMap.is_at, Cmp.unsigned_tied}
use Rattle.krs_model.specs.Table.{alter, at, map_values, put, Rises, Table, without}
use Rattle.krs_model.proofs.Tables.Changes.{at_map, same_at}
use Rattle.krs_keys.specs.declared.key.Key.{Key}
use Rattle.krs_keys.proofs.RisingTables.{at_alter, at_put, at_without, either_way}

-- a change that shows in nothing that is told
abbrev pub IsHidden : {X : Type 0} → (Option Key → X) → (Key → Key) → Type 0
IsHidden p f = (o : Option Key) → p (option_map f o) ≡ p o

pub told_alter :
    {X : Type 0} (p : Option Key → X) (keys : Table Key) (k q : ℕ) (f : Key → Key) → IsHidden p f
    → p (at (alter keys k f) q) ≡ p (at keys q)
told_alter p keys k q f hidden =
    ap p (at_alter keys k q f)
    ∙ elim (is_at (nat_cmp q) k) as (λ b. is_at (nat_cmp q) k ≡ b
    → p (cond b (option_map f (at keys k)) (at keys q)) ≡ p (at keys q)) [
      | true ↦ λ t. hidden (at keys k) ∙ ap (λ z. p (at keys z)) (sym (same_at q k t))
      | false ↦ λ t. refl
    ] refl

pub told_map :
    {X : Type 0} (p : Option Key → X) (keys : Table Key) (q : ℕ) (f : Key → Key) → IsHidden p f
    → p (at (map_values f keys) q) ≡ p (at keys q)
told_map p keys q f hidden = ap p (at_map f keys q) ∙ hidden (at keys q)

either :
    {X : Type 0} (p : Option Key → X) (b : Bool) (o r : Option Key) → p (cond b o r) ≡ cond b (p o) (p r)
either p true o r = refl
either p false o r = refl

pub told_put :
    {X : Type 0} (p : Option Key → X) (keys : Table Key) (k q : ℕ) (v : Key)
    → p (at (put keys k v) q) ≡ cond (nat_eq k q) (p (Some v)) (p (at keys q))
told_put p keys k q v =
    ap p (at_put keys k q v)
    ∙ (either p (is_at (nat_cmp q) k) (Some v) (at keys q)
    ∙ ap (λ b. cond b (p (Some v)) (p (at keys q))) (sym (either_way k q) ∙ unsigned_tied k q))

-- of a change that may show
pub told_changed :
    {X : Type 0} (p : Option Key → X) (keys : Table Key) (k q : ℕ) (f : Key → Key)
    → p (at (alter keys k f) q) ≡ cond (nat_eq k q) (p (option_map f (at keys k))) (p (at keys q))
told_changed p keys k q f =
    ap p (at_alter keys k q f)
    ∙ (either p (is_at (nat_cmp q) k) (option_map f (at keys k)) (at keys q)
    ∙ ap (λ b. cond b (p (option_map f (at keys k))) (p (at keys q))) (sym (either_way k q) ∙ unsigned_tied k q))

pub told_without :
    {X : Type 0} (p : Option Key → X) (keys : Table Key) (k q : ℕ) → Rises keys
    → p (at (without keys k) q) ≡ cond (nat_eq k q) (p None) (p (at keys q))
told_without p keys k q rises =
    ap p (at_without keys k q rises)
    ∙ (either p (is_at (nat_cmp k) q) None (at keys q)
    ∙ ap (λ b. cond b (p None) (p (at keys q))) (unsigned_tied k q))
