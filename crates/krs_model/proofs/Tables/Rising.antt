-- Tables in which numbers rise.
use Rattle.std.proofs.Common.{[], ◌<◌, ◌∷◌, ◌≡◌, ap, arith, Bool, cond, false, filter, List, nat_cmp, refl, subst}
use Rattle.std.proofs.{Common.{sym, true, ℕ}, lemmas.Bool.Decides.nat_tests}
use Rattle.std.specs.{BTreeMap.is_at, Cmp.{nat_cmp_is, ranked}, declared.cmp.Ordering.TheVariants.{Equal, Greater}}
use Rattle.std.specs.{declared.cmp.Ordering.TheVariants.Less, List.{AllByRecursion, Sorted.IsStrictlySortedBy}}
use Rattle.std.specs.{Map.keys_of, Ordering.match_ordering}
use Rattle.krs_model.specs.Table.{alter, map_values, put, Rises, Table, without}
use Rattle.std.proofs.lemmas.Grind.{common_steps}

keys_alter : {X : Type 0} (es : Table X) (k : ℕ) (f : X → X) → keys_of (alter es k f) ≡ keys_of es
keys_alter [] k f = refl
keys_alter (e ∷ es) k f = grind (arith, nat_tests, keys_alter es k f)

pub alter_rises : {X : Type 0} (es : Table X) (k : ℕ) (f : X → X) → Rises es → Rises (alter es k f)
alter_rises es k f rises = subst (IsStrictlySortedBy nat_cmp) (sym (keys_alter es k f)) rises

keys_map : {X Y : Type 0} (f : X → Y) (es : Table X) → keys_of (map_values f es) ≡ keys_of es
keys_map f [] = refl
keys_map f (e ∷ es) = ap (λ ks. e.0 ∷ ks) (keys_map f es)

pub map_rises : {X Y : Type 0} (f : X → Y) (es : Table X) → Rises es → Rises (map_values f es)
map_rises f es rises = subst (IsStrictlySortedBy nat_cmp) (sym (keys_map f es)) rises

-- above a number
abbrev pub Above : ℕ → ℕ → Type 0
Above n k = nat_cmp n k ≡ Less

all_filter :
    {X : Type 0} (P : ℕ → Type 0) (p : ℕ × X → Bool) (es : Table X) → AllByRecursion P (keys_of es)
    → AllByRecursion P (keys_of (filter p es))
all_filter P p [] all = all
all_filter P p (e ∷ es) all = grind (arith, nat_tests, all_filter P p es all.1)

pub filter_rises : {X : Type 0} (p : ℕ × X → Bool) (es : Table X) → Rises es → Rises (filter p es)
unfolding IsStrictlySortedBy
filter_rises p [] rises = rises
filter_rises p (e ∷ es) rises =
    elim (p e) as (λ b. IsStrictlySortedBy nat_cmp (keys_of (cond b (e ∷ filter p es) (filter p es)))) [
      | true ↦ (all_filter (Above e.0) p es rises.0, filter_rises p es rises.1)
      | false ↦ filter_rises p es rises.1
    ]

all_without :
    {X : Type 0} (P : ℕ → Type 0) (es : Table X) (k : ℕ) → AllByRecursion P (keys_of es)
    → AllByRecursion P (keys_of (without es k))
all_without P [] k all = all
all_without P (e ∷ es) k all = grind (arith, common_steps, nat_cmp, all_without P es k all.1)

pub without_rises : {X : Type 0} (es : Table X) (k : ℕ) → Rises es → Rises (without es k)
unfolding IsStrictlySortedBy
without_rises [] k rises = rises
without_rises (e ∷ es) k rises =
    elim (is_at (nat_cmp k) e.0) as (λ b. IsStrictlySortedBy nat_cmp (keys_of (cond b es (e ∷ without es k)))) [
      | true ↦ rises.1
      | false ↦ (all_without (Above e.0) es k rises.0, without_rises es k rises.1)
    ]

pub above_less : (m n : ℕ) → Above m n → m < n
above_less m n h = ranked m n Less (sym h)

less_above : (m n : ℕ) → m < n → Above m n
less_above m n h = sym (nat_cmp_is m n Less h)

-- what is above a number is above a lesser one
all_above :
    (m n : ℕ) (ks : List ℕ) → m < n → AllByRecursion (Above n) ks → AllByRecursion (Above m) ks
all_above m n [] less all = all
all_above m n (k ∷ ks) less all = grind (arith, nat_tests, above_less, less_above, all_above m n ks less all.1)

all_put :
    {X : Type 0} (P : ℕ → Type 0) (es : Table X) (k : ℕ) (v : X) → P k → AllByRecursion P (keys_of es)
    → AllByRecursion P (keys_of (put es k v))
all_put P [] k v here all = (here, tt)
all_put P (e ∷ es) k v here all = grind (arith, nat_tests, all_put P es k v here all.1)

pub put_rises : {X : Type 0} (es : Table X) (k : ℕ) (v : X) → Rises es → Rises (put es k v)
unfolding IsStrictlySortedBy
put_rises [] k v rises = (tt, tt)
put_rises (e ∷ es) k v rises =
    elim (nat_cmp k e.0) as (λ r. nat_cmp k e.0 ≡ r
    → IsStrictlySortedBy nat_cmp (keys_of (match_ordering r ((k, v) ∷ e ∷ es) ((e.0, v) ∷ es) (e ∷ put es k v)))) [
      | Less ↦ λ t. ((t, all_above k e.0 (keys_of es) (above_less k e.0 t) rises.0), rises)
      | Equal ↦ λ t. rises
      | Greater ↦ λ t. (
        all_put (Above e.0) es k v (less_above e.0 k (ranked k e.0 Greater (sym t))) rises.0,
        put_rises es k v rises.1,
      )
    ] refl
