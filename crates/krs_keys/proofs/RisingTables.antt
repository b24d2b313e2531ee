-- Laws of tables whose numbers rise: two that have the same at each number are one.
use Rattle.std.proofs.Common.{[], ◌∙◌, ◌∷◌, ◌≡◌, ap, cond, false, is_eq, length, List, nat_cmp, None, option_map, refl}
use Rattle.std.proofs.Common.{Some, subst, suc, sym, true, ℕ}
use Rattle.std.specs.{BTreeMap.is_at, Cmp.{eq_by_cmp_equiv, nat_cmp_total, ranked}, List.AllByRecursion}
use Rattle.std.specs.{List.Sorted.IsStrictlySortedBy, Map.keys_of, Ordering.{match_ordering, ordering_reverse}}
use Rattle.std.specs.declared.cmp.Ordering.TheVariants.{Equal, Greater, Less}
use Rattle.std.proofs.lemmas.Map.{lookup-none, lookup-remove_entry, Entries.{none_below_head, none_past_head}}
use Rattle.std.proofs.lemmas.{Map.Keys.{IsDistinct-from_sorted, sorted_tail}, Option.{none-some, same_Some}}
use Rattle.krs_model.specs.Table.{alter, at, map_values, put, Rises, Table, without}
use Rattle.krs_model.proofs.Tables.Changes.{at_alter_other, at_alter_same, at_put_other, at_put_same, is_at_same}
use Rattle.krs_model.proofs.Tables.Changes.{same_at}
use Rattle.krs_keys.proofs.TableLemmas.{keys_map}

-- two numbers are one either way
pub either_way : (k q : ℕ) → is_at (nat_cmp k) q ≡ is_at (nat_cmp q) k
either_way k q = (eq_by_cmp_equiv nat_cmp_total).symm k q

-- what is at a number after a value was put at that one or another
pub at_put :
    {X : Type 0} (es : Table X) (k q : ℕ) (v : X)
    → at (put es k v) q ≡ cond (is_at (nat_cmp q) k) (Some v) (at es q)
at_put es k q v =
    elim (is_at (nat_cmp q) k) as (λ b. is_at (nat_cmp q) k ≡ b → at (put es k v) q ≡ cond b (Some v) (at es q)) [
      | true ↦ λ t. subst (λ (z : ℕ). at (put es k v) z ≡ Some v) (sym (same_at q k t)) (at_put_same es k v)
      | false ↦ λ t. at_put_other es k q v t
    ] refl

-- what is at a number after a change at that one or another
pub at_alter :
    {X : Type 0} (es : Table X) (k q : ℕ) (f : X → X)
    → at (alter es k f) q ≡ cond (is_at (nat_cmp q) k) (option_map f (at es k)) (at es q)
at_alter es k q f =
    elim (is_at (nat_cmp q) k) as (λ b. is_at (nat_cmp q) k ≡ b
    → at (alter es k f) q ≡ cond b (option_map f (at es k)) (at es q)) [
      | true ↦ λ t.
          subst (λ (z : ℕ). at (alter es k f) z ≡ option_map f (at es k)) (sym (same_at q k t)) (at_alter_same es k f)
      | false ↦ λ t. at_alter_other es k q f t
    ] refl

-- ---- numbers that rise still do after a change
-- what holds of a number and of all of a table still does with the number put
all_put :
    {X : Type 0} (P : ℕ → Type 0) (es : Table X) (k : ℕ) (v : X) → P k → AllByRecursion P (keys_of es)
    → AllByRecursion P (keys_of (put es k v))
all_put P [] k v h g = (h, tt)
all_put P (e ∷ es) k v h g =
    elim (nat_cmp k e.0) as (λ r.
    AllByRecursion P (keys_of (match_ordering r ((k, v) ∷ e ∷ es) ((e.0, v) ∷ es) (e ∷ put es k v)))) [
      | Less ↦ (h, g)
      | Equal ↦ g
      | Greater ↦ (g.0, all_put P es k v h g.1)
    ]

-- what holds of all numbers of a table still does with one taken out
all_without :
    {X : Type 0} (P : ℕ → Type 0) (es : Table X) (k : ℕ) → AllByRecursion P (keys_of es)
    → AllByRecursion P (keys_of (without es k))
all_without P [] k g = g
all_without P (e ∷ es) k g =
    elim (is_at (nat_cmp k) e.0) as (λ b. AllByRecursion P (keys_of (cond b es (e ∷ without es k)))) [
      | true ↦ g.1
      | false ↦ (g.0, all_without P es k g.1)
    ]

-- a number below another is below all that this is below
pub above : (k n : ℕ) (ks : List ℕ) → nat_cmp k n ≡ Less → AllByRecursion (λ y. nat_cmp n y ≡ Less) ks
    → AllByRecursion (λ y. nat_cmp k y ≡ Less) ks
above k n [] lt h = tt
above k n (x ∷ ks) lt h = (nat_cmp_total.trans k n x lt h.0, above k n ks lt h.1)

-- of two numbers, if one is above, the other is below
after : (k n : ℕ) → nat_cmp k n ≡ Greater → nat_cmp n k ≡ Less
after k n h = nat_cmp_total.antisymm n k ∙ ap ordering_reverse h

-- numbers rise after a value is put at one
pub rises_put : {X : Type 0} (es : Table X) (k : ℕ) (v : X) → Rises es → Rises (put es k v)
unfolding IsStrictlySortedBy
rises_put [] k v s = (tt, tt)
rises_put (e ∷ es) k v s =
    elim (nat_cmp k e.0) as (λ r. nat_cmp k e.0 ≡ r
    → Rises (match_ordering r ((k, v) ∷ e ∷ es) ((e.0, v) ∷ es) (e ∷ put es k v))) [
      | Less ↦ λ t. ((t, above k e.0 (keys_of es) t s.0), s)
      | Equal ↦ λ t. s
      | Greater ↦ λ t. (all_put (λ y. nat_cmp e.0 y ≡ Less) es k v (after k e.0 t) s.0, rises_put es k v s.1)
    ] refl

-- and after one is taken out
pub rises_without : {X : Type 0} (es : Table X) (k : ℕ) → Rises es → Rises (without es k)
unfolding IsStrictlySortedBy
rises_without [] k s = s
rises_without (e ∷ es) k s =
    elim (is_at (nat_cmp k) e.0) as (λ b. Rises (cond b es (e ∷ without es k))) [
      | true ↦ s.1
      | false ↦ (all_without (λ y. nat_cmp e.0 y ≡ Less) es k s.0, rises_without es k s.1)
    ]

-- a change leaves the numbers as they are
keys_alter : {X : Type 0} (es : Table X) (k : ℕ) (f : X → X) → keys_of (alter es k f) ≡ keys_of es
keys_alter [] k f = refl
keys_alter (e ∷ es) k f =
    elim (is_at (nat_cmp k) e.0) as (λ b.
    keys_of (cond b ((e.0, f e.1) ∷ es) (e ∷ alter es k f)) ≡ e.0 ∷ keys_of es) [
      | true ↦ refl
      | false ↦ ap (λ ks. e.0 ∷ ks) (keys_alter es k f)
    ]

-- so they rise after a change
pub rises_alter : {X : Type 0} (es : Table X) (k : ℕ) (f : X → X) → Rises es → Rises (alter es k f)
rises_alter es k f s = subst (IsStrictlySortedBy nat_cmp) (sym (keys_alter es k f)) s

-- ---- two tables that have the same at each number are one
-- the first number stands nowhere after
pub past : {X : Type 0} (q : ℕ) (e : ℕ × X) (es : Table X) → Rises (e ∷ es) → is_at (nat_cmp q) e.0 ≡ true
    → at es q ≡ None
past q e es s t =
    lookup-none (is_at (nat_cmp q)) es
    (none_past_head (eq_by_cmp_equiv nat_cmp_total) q e es (IsDistinct-from_sorted nat_cmp (keys_of (e ∷ es)) s) t)

-- a number below the first stands nowhere
pub below : {X : Type 0} (q : ℕ) (e : ℕ × X) (es : Table X) → Rises (e ∷ es) → nat_cmp q e.0 ≡ Less
    → at (e ∷ es) q ≡ None
below q e es s t = lookup-none (is_at (nat_cmp q)) (e ∷ es) (none_below_head nat_cmp_total q e es s t)

-- what is at the first number is its value
pub at_first : {X : Type 0} (e : ℕ × X) (es : Table X) → at (e ∷ es) e.0 ≡ Some e.1
at_first e es = rw (is_at_same e.0) refl

-- of two such tables with the same first number, the rests have the same at each number
tails :
    {X : Type 0} (d e : ℕ × X) (ds es : Table X) → Rises (d ∷ ds) → Rises (e ∷ es) → d.0 ≡ e.0
    → ((q : ℕ) → at (d ∷ ds) q ≡ at (e ∷ es) q) → (q : ℕ) → at ds q ≡ at es q
tails d e ds es s t same h q =
    elim (is_at (nat_cmp q) d.0) as (λ b. is_at (nat_cmp q) d.0 ≡ b
    → cond b (Some d.1) (at ds q) ≡ cond (is_at (nat_cmp q) e.0) (Some e.1) (at es q) → at ds q ≡ at es q) [
      | true ↦ λ u g.
          past q d ds s u ∙ sym (past q e es t (subst (λ (z : ℕ). is_at (nat_cmp q) z ≡ true) same u))
      | false ↦ λ u g.
          g ∙ ap (λ b. cond b (Some e.1) (at es q)) (subst (λ (z : ℕ). is_at (nat_cmp q) z ≡ false) same u)
    ] refl (h q)

-- two such tables are one
pub same_tables :
    {X : Type 0} (ds es : Table X) → Rises ds → Rises es → ((q : ℕ) → at ds q ≡ at es q) → ds ≡ es
same_tables [] [] s t h = refl
same_tables [] (e ∷ es) s t h = absurd (none-some e.1 (h e.0 ∙ at_first e es))
same_tables (d ∷ ds) [] s t h = absurd (none-some d.1 (sym (h d.0) ∙ at_first d ds))
same_tables (d ∷ ds) (e ∷ es) s t h =
    elim (nat_cmp d.0 e.0) as (λ r. nat_cmp d.0 e.0 ≡ r → d ∷ ds ≡ e ∷ es) [
      | Less ↦ λ u. absurd (none-some d.1 (sym (below d.0 e es t u) ∙ (sym (h d.0) ∙ at_first d ds)))
      | Equal ↦ λ u.
          let same : d.0 ≡ e.0 = ranked d.0 e.0 Equal (sym u) in
          let value : d.1 ≡ e.1 =
          same_Some d.1 e.1 (sym (at_first d ds) ∙ (h d.0 ∙ (ap (at (e ∷ es)) same ∙ at_first e es))) in
          let rest =
          same_tables ds es (sorted_tail nat_cmp d.0 (keys_of ds) s) (sorted_tail nat_cmp e.0 (keys_of es) t)
          (tails d e ds es s t same h) in
          λ i. (same i, value i) ∷ rest i
      | Greater ↦ λ u.
          absurd (none-some e.1 (sym (below e.0 d ds s (after d.0 e.0 u)) ∙ (h e.0 ∙ at_first e es)))
    ] refl

-- and after a change of all
pub rises_map : {X Y : Type 0} (f : X → Y) (es : Table X) → Rises es → Rises (map_values f es)
rises_map f es s = subst (IsStrictlySortedBy nat_cmp) (sym (keys_map f es)) s

-- ---- what is taken out, and how many entries there are
-- what is at a number after one is taken out
pub at_without :
    {X : Type 0} (es : Table X) (k q : ℕ) → Rises es
    → at (without es k) q ≡ cond (is_at (nat_cmp k) q) None (at es q)
at_without es k q s =
    lookup-remove_entry (eq_by_cmp_equiv nat_cmp_total) (is_at (nat_cmp k))
    (λ x y h. ap (λ z. is_at (nat_cmp z) y) (same_at k x h)) q es (IsDistinct-from_sorted nat_cmp (keys_of es) s)

-- a table has one more with a value put where nothing was
pub length_put :
    {X : Type 0} (es : Table X) (k : ℕ) (v : X) → at es k ≡ None → length (put es k v) ≡ suc (length es)
length_put [] k v h = refl
length_put (e ∷ es) k v h =
    elim (nat_cmp k e.0) as (λ r. cond (is_eq r) (Some e.1) (at es k) ≡ None
    → length (match_ordering r ((k, v) ∷ e ∷ es) ((e.0, v) ∷ es) (e ∷ put es k v)) ≡ suc (suc (length es))) [
      | Less ↦ λ n. refl
      | Equal ↦ λ n. absurd (none-some e.1 (sym n))
      | Greater ↦ λ n. ap suc (length_put es k v n)
    ] h

-- where nothing is, nothing is taken out
pub without_absent : {X : Type 0} (es : Table X) (k : ℕ) → at es k ≡ None → without es k ≡ es
without_absent [] k h = refl
without_absent (e ∷ es) k h =
    elim (is_at (nat_cmp k) e.0) as (λ b. cond b (Some e.1) (at es k) ≡ None
    → cond b es (e ∷ without es k) ≡ e ∷ es) [
      | true ↦ λ q. absurd (none-some e.1 (sym q))
      | false ↦ λ q. ap (λ zs. e ∷ zs) (without_absent es k q)
    ] h

-- what is taken out is gone
pub gone_without : {X : Type 0} (es : Table X) (k : ℕ) → Rises es → at (without es k) k ≡ None
gone_without es k s = at_without es k k s ∙ ap (λ b. cond b None (at es k)) (is_at_same k)
