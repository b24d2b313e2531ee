-- Laws of tables: what is at a number after a change there.
use Rattle.std.proofs.Common.{[], ◌+◌, ◌<◌, ◌==◌, ◌∙◌, ◌∷◌, ◌≡◌, ◌⊎◌, ap, arith, Bool, cond, false, filter}
use Rattle.std.proofs.Common.{nat_cmp, None, option_map, refl, Some, subst, sym, true, ℕ}
use Rattle.std.proofs.lemmas.{Bool.Decides.nat_tests, Map.Entries.lookup-filter-keys}
use Rattle.std.specs.{BTreeMap.is_at, Cmp.unsigned_tied, Map.set_value}
use Rattle.krs_model.specs.Table.{alter, at, IsBelow, map_values, put, Table, without}
use Rattle.std.proofs.lemmas.Grind.{common_steps}

-- the two tests of one number agree
pub same_test : (q k : ℕ) → is_at (nat_cmp q) k ≡ (k == q)
same_test q k = grind (arith, nat_tests, unsigned_tied q k)

-- a value that is written back changed
pub alter_some : {X : Type 0} (es : Table X) (k : ℕ) (f : X → X) (v : X) → at es k ≡ Some v
    → set_value (is_at (nat_cmp k)) es (f v) ≡ alter es k f
alter_some [] k f v h = refl
alter_some (e ∷ es) k f v h = grind (arith, nat_tests, alter_some es k f v)

-- nothing is there
pub alter_none : {X : Type 0} (es : Table X) (k : ℕ) (f : X → X) → at es k ≡ None → alter es k f ≡ es
alter_none [] k f h = refl
alter_none (e ∷ es) k f h = grind (arith, nat_tests, alter_none es k f)

-- a number is at itself
pub is_at_same : (k : ℕ) → is_at (nat_cmp k) k ≡ true
is_at_same k = grind (arith, nat_tests, unsigned_tied k k)

pub same_at : (q k : ℕ) → is_at (nat_cmp q) k ≡ true → q ≡ k
same_at q k h = grind (arith, nat_tests, unsigned_tied q k)

pub at_alter_none : {X : Type 0} (es : Table X) (k q : ℕ) (f : X → X) → at es q ≡ None → at (alter es k f) q ≡ None
at_alter_none [] k q f h = refl
at_alter_none (e ∷ es) k q f h = grind (arith, nat_tests, at_alter_none es k q f)

-- what is put there
pub at_put_other : {X : Type 0} (es : Table X) (k q : ℕ) (v : X) → is_at (nat_cmp q) k ≡ false
    → at (put es k v) q ≡ at es q
at_put_other [] k q v h = rw h refl
at_put_other (e ∷ es) k q v h = grind (arith, nat_tests, at_put_other es k q v h)

pub at_put_none : {X : Type 0} (es : Table X) (k q : ℕ) (v : X) → k < q → at es q ≡ None → at (put es k v) q ≡ None
at_put_none es k q v lt h = grind (arith, common_steps, nat_cmp, nat_tests, at_put_other)

-- what is put where nothing was is taken out again
pub without_put : {X : Type 0} (es : Table X) (k : ℕ) (v : X) → at es k ≡ None → without (put es k v) k ≡ es
without_put [] k v h = rw (is_at_same k) refl
without_put (e ∷ es) k v h = grind (arith, nat_tests, is_at_same, without_put es k v)

-- the number after the last one given
pub below_put : {X : Type 0} (es fs : Table X) (n : ℕ) (v : X) → fs ≡ put es n v → IsBelow es n → IsBelow fs (n + 1)
below_put es fs n v e below = λ q h. ap (λ zs. at zs q) e ∙ at_put_none es n q v (omega arith) (below q (omega arith))

pub at_filter_none : {X : Type 0} (p : ℕ × X → Bool) (es : Table X) (q : ℕ) → at es q ≡ None
    → at (filter p es) q ≡ None
at_filter_none p [] q h = refl
at_filter_none p (e ∷ es) q h = grind (arith, nat_tests, at_filter_none p es q)

-- what is taken out leaves the numbers that were not given
pub below_filter : {X : Type 0} (p : ℕ × X → Bool) (es fs : Table X) (n : ℕ) → fs ≡ filter p es → IsBelow es n
    → IsBelow fs n
below_filter p es fs n e below = λ q h. ap (λ zs. at zs q) e ∙ at_filter_none p es q (below q h)

-- a map's values seen through f
pub at_map : {X Y : Type 0} (f : X → Y) (es : Table X) (k : ℕ) → at (map_values f es) k ≡ option_map f (at es k)
at_map f [] k = refl
at_map f (e ∷ es) k = grind (arith, nat_tests, at_map f es k)

pub put_map : {X Y : Type 0} (f : X → Y) (es : Table X) (k : ℕ) (v : X)
    → map_values f (put es k v) ≡ put (map_values f es) k (f v)
put_map f [] k v = refl
put_map f (e ∷ es) k v = grind (arith, nat_tests, put_map f es k v)

pub without_map : {X Y : Type 0} (f : X → Y) (es : Table X) (k : ℕ)
    → map_values f (without es k) ≡ without (map_values f es) k
without_map f [] k = refl
without_map f (e ∷ es) k = grind (arith, nat_tests, without_map f es k)

-- a change that is another change through f
pub alter_map : {X Y : Type 0} (f : X → Y) (es : Table X) (k : ℕ) (g : X → X) (h : Y → Y)
    → ((v : X) → at es k ≡ Some v → f (g v) ≡ h (f v)) → map_values f (alter es k g) ≡ alter (map_values f es) k h
alter_map {X = X} f [] k g h same = refl
alter_map {X = X} f (e ∷ es) k g h same = grind (arith, nat_tests, alter_map f es k g h)

pub filter_map_keys : {X Y : Type 0} (f : X → Y) (es : Table X) (kept : ℕ → Bool)
    → map_values f (filter (λ e. kept e.0) es) ≡ filter (λ e. kept e.0) (map_values f es)
filter_map_keys f [] kept = refl
filter_map_keys f (e ∷ es) kept = grind (arith, nat_tests, filter_map_keys f es kept)

here : (k q : ℕ) → k ≡ q → is_at (nat_cmp k) q ≡ true
here k q h = subst (λ (z : ℕ). is_at (nat_cmp k) z ≡ true) h (is_at_same k)

-- what is put is there
pub at_put_same : {X : Type 0} (es : Table X) (k : ℕ) (v : X) → at (put es k v) k ≡ Some v
at_put_same [] k v = rw (is_at_same k) refl
at_put_same (e ∷ es) k v = grind (arith, nat_tests, is_at_same, here, at_put_same es k v)

-- what is at a number after a change at another, or there
pub at_alter_other : {X : Type 0} (es : Table X) (k q : ℕ) (f : X → X) → is_at (nat_cmp q) k ≡ false
    → at (alter es k f) q ≡ at es q
at_alter_other [] k q f h = refl
at_alter_other (e ∷ es) k q f h = grind (arith, nat_tests, same_at, at_alter_other es k q f h)

pub at_alter_same : {X : Type 0} (es : Table X) (k : ℕ) (f : X → X) → at (alter es k f) k ≡ option_map f (at es k)
at_alter_same [] k f = refl
at_alter_same (e ∷ es) k f = grind (arith, nat_tests, at_alter_same es k f)

-- what is kept by its number
pub at_kept : {X : Type 0} (kept : ℕ → Bool) (es : Table X) (k : ℕ)
    → at (filter (λ e. kept e.0) es) k ≡ cond (kept k) (at es k) None
at_kept kept es k = lookup-filter-keys (is_at (nat_cmp k)) kept (kept k) (λ q t. ap kept (sym (same_at k q t))) es

-- two numbers are one, or neither is at the other
pub at_or_apart : (q k : ℕ) → (q ≡ k) ⊎ (is_at (nat_cmp q) k ≡ false)
at_or_apart q k = grind (arith, common_steps, nat_cmp, same_at)

-- what is taken out leaves what was not there
pub at_without_none : {X : Type 0} (es : Table X) (k q : ℕ) → at es q ≡ None → at (without es k) q ≡ None
at_without_none [] k q h = refl
at_without_none (e ∷ es) k q h = grind (arith, nat_tests, at_without_none es k q)

-- what is at another number than that which is taken out
pub at_without_other : {X : Type 0} (es : Table X) (k q : ℕ) → is_at (nat_cmp q) k ≡ false
    → at (without es k) q ≡ at es q
at_without_other [] k q apart = refl
at_without_other (e ∷ es) k q apart = grind (arith, nat_tests, here, same_at, at_without_other es k q apart)
