-- What the contexts of a group come to, from what is listed.
use Rattle.std.proofs.Common.{[], ◌&&◌, ◌+◌, ◌==◌, ◌||◌, ◌∙◌, ◌∷◌, ◌≡◌, ◌≢◌, ap, arith, Bool, cond, count_by, eqb-true}
use Rattle.std.proofs.Common.{false, filter, IfNone, IfSome, is_some, length, List, nat_cmp, nat_eq, None, not}
use Rattle.std.proofs.Common.{Option, option_map, refl, Some, subst, sym, true, true≢false, ℕ}
use Rattle.std.specs.{BTreeMap.is_at, Cmp.{eq_by_cmp_equiv, IsTotalOrder, nat_cmp_is, nat_cmp_total}}
use Rattle.std.specs.List.{AllByRecursion, list_any, Sorted.IsStrictlySortedBy}
use Rattle.std.specs.{Map.{keys_of, values_of}, Ordering.ordering_then, declared.cmp.Ordering.TheVariants.{Equal, Less}}
use Rattle.std.proofs.lemmas.{Cmp.{on_total, then_total}, List.{Kept.IsStrictlySortedBy-filter, Sums.sum_by-cons}}
use Rattle.std.proofs.lemmas.Map.{lookup-none, Entries.{lookup-filter-values, none_past_head, option_filter}}
use Rattle.std.proofs.lemmas.Map.Keys.{IsDistinct-from_sorted, sorted_tail}
use Rattle.std.proofs.lemmas.Map.Lookups.{btree_set_from_contains, exact_pairs, exact_unsigned}
use Rattle.std.proofs.lemmas.Option.{none-some, same_Some}
use Rattle.krs_types.specs.declared.context.Context.{Context}
use Rattle.krs_model.specs.{Queues.place_cmp, Table.{at, Rises, Table, without}}
use Rattle.krs_model.proofs.Reach.Levels.{or_true, same_is}
use Rattle.krs_model.proofs.Tables.{Changes.{is_at_same, same_at}, Rising.filter_rises}
use Rattle.krs_ctx.specs.{Anchors.Each, Members.{AreMembers, is_group, IsThereFailing, lists, pairs_of, placed}}
use Rattle.krs_ctx.specs.declared.members.Members.{Members}
use Rattle.krs_ctx.proofs.{FirstLemmas.any_at, MembersLemmas.{any_pairs, tied}}
use Rattle.std.proofs.lemmas.Grind.{common_steps}

-- ---- tables in which numbers rise
-- the first number stands nowhere after
past : {X : Type 0} (q : ℕ) (e : ℕ × X) (es : Table X) → Rises (e ∷ es) → is_at (nat_cmp q) e.0 ≡ true → at es q ≡ None
past q e es s t =
    lookup-none (is_at (nat_cmp q)) es
    (none_past_head (eq_by_cmp_equiv nat_cmp_total) q e es (IsDistinct-from_sorted nat_cmp (keys_of (e ∷ es)) s) t)

later :
    {X : Type 0} (e : ℕ × X) (es : Table X) (n : ℕ) (v : X) → Rises (e ∷ es) → at es n ≡ Some v
    → at (e ∷ es) n ≡ Some v
later e es n v rises there = grind (arith, common_steps, nat_cmp, none-some, past)

-- what holds of what is at each number holds of each entry
pub each_from_at :
    {X : Type 0} (P : ℕ × X → Type 0) (es : Table X) → Rises es → ((n : ℕ) (v : X) → at es n ≡ Some v → P (n, v))
    → Each P es
each_from_at P [] rises h = tt
each_from_at P (e ∷ es) rises h = (
  h e.0 e.1 (ap (λ b. cond b (Some e.1) (at es e.0)) (is_at_same e.0)),
  each_from_at P es (sorted_tail nat_cmp e.0 (keys_of es) rises) (λ n v there. h n v (later e es n v rises there)),
)

-- where each passes, all stay
pub all_kept : {X : Type 0} (p : X → Bool) (es : List X) → Each (λ e. p e ≡ true) es → filter p es ≡ es
all_kept p [] h = refl
all_kept p (e ∷ es) h =
    ap (λ b. cond b (e ∷ filter p es) (filter p es)) h.0 ∙ ap (λ zs. e ∷ zs) (all_kept p es h.1)

-- what does not pass may go first
pub filter_without :
    {X : Type 0} (p : ℕ × X → Bool) (es : Table X) (k : ℕ)
    → ((v : X) → at es k ≡ Some v → p (k, v) ≡ false) → filter p (without es k) ≡ filter p es
filter_without p [] k fails = refl
filter_without {X = X} p (e ∷ es) k fails =
    elim (is_at (nat_cmp k) e.0) as
    (λ b. is_at (nat_cmp k) e.0 ≡ b → ((v : X) → cond b (Some e.1) (at es k) ≡ Some v → p (k, v) ≡ false)
    → filter p (cond b es (e ∷ without es k)) ≡ cond (p e) (e ∷ filter p es) (filter p es)) [
      | true ↦ λ t h.
          let out : p e ≡ false = subst (λ (n : ℕ). p (n, e.1) ≡ false) (same_at k e.0 t) (h e.1 refl) in
          sym (ap (λ b. cond b (e ∷ filter p es) (filter p es)) out)
      | false ↦ λ t h. ap (λ zs. cond (p e) (e ∷ zs) zs) (filter_without p es k h)
    ] refl fails

pub ends_one :
    (p : ℕ × Context → Bool) (es : Table Context) (k : ℕ) → IsThereFailing p es k
    → filter p (without es k) ≡ filter p es
ends_one p es k c = grind (arith, common_steps, filter_without, same_Some)

-- ---- one of a group
there_of :
    (group : Context → ℕ) (g : ℕ) (o : Option Context) → is_group g (option_map group o) ≡ true
    → (c : Context) × (o ≡ Some c) × (nat_eq (group c) g ≡ true)
there_of group g None h = absurd (true≢false (sym h))
there_of group g (Some c) h = (c, refl, h)

-- what is listed is there, and of the group
pub some_there :
    (group : Context → ℕ) (es : Table Context) (m : Members) (g n : ℕ) → AreMembers group es m
    → lists m g n ≡ true → (c : Context) × (at es n ≡ Some c) × (nat_eq (group c) g ≡ true)
some_there group es m g n are h = there_of group g (at es n) (sym (are g n) ∙ h)

-- what is not listed is not of the group
other_group :
    (group : Context → ℕ) (es : Table Context) (m : Members) (g n : ℕ) (c : Context) → AreMembers group es m
    → lists m g n ≡ false → at es n ≡ Some c → nat_eq (group c) g ≡ false
other_group group es m g n c are none there = grind (arith, common_steps, option_map)

-- the first of a group is to end with it
pub first_fails :
    (group : Context → ℕ) (es : Table Context) (m : Members) (g : ℕ) (o : Option ℕ) → AreMembers group es m
    → IfSome o (λ n. lists m g n ≡ true) → IfSome o (IsThereFailing (λ e. not (group e.1 == g)) es)
first_fails group es m g o are h = grind (arith, common_steps, some_there)

-- where a group has none, nothing ends with it
pub none_fails :
    (group : Context → ℕ) (es : Table Context) (m : Members) (g : ℕ) (o : Option ℕ) → AreMembers group es m
    → Rises es → IfNone o ((n : ℕ) → lists m g n ≡ false)
    → IfNone o (filter (λ e. not (group e.1 == g)) es ≡ es)
none_fails group es m g (Some k) are rises h = h
none_fails group es m g None are rises h =
    all_kept (λ e. not (group e.1 == g)) es
    (each_from_at (λ (e : ℕ × Context). not (group e.1 == g) ≡ true) es rises
    (λ n c there. ap not (other_group group es m g n c are (h n) there)))

not_same : (n k : ℕ) → n ≢ k → (n == k) ≡ false
not_same n k other = grind (arith, common_steps, eqb-true)

-- another of a group is to end with the others
pub other_fails :
    (group : Context → ℕ) (es : Table Context) (m : Members) (g k : ℕ) (o : Option ℕ) → AreMembers group es m
    → IfSome o (λ n. lists m g n ≡ true) → IfSome o (λ n. n ≢ k)
    → IfSome o (IsThereFailing (λ e. not (group e.1 == g) || (e.0 == k)) es)
other_fails group es m g k None are h other = h
other_fails group es m g k (Some n) are h other = grind (arith, common_steps, some_there, not_same)

-- where a group has no other, no other ends
pub no_other_fails :
    (group : Context → ℕ) (es : Table Context) (m : Members) (g k : ℕ) (o : Option ℕ) → AreMembers group es m
    → Rises es → IfNone o ((n : ℕ) → n ≢ k → lists m g n ≡ false)
    → IfNone o (filter (λ e. not (group e.1 == g) || (e.0 == k)) es ≡ es)
no_other_fails group es m g k (Some n) are rises h = h
no_other_fails group es m g k None are rises h =
    all_kept (λ e. not (group e.1 == g) || (e.0 == k)) es
    (each_from_at (λ (e : ℕ × Context). (not (group e.1 == g) || (e.0 == k)) ≡ true) es rises
    (λ n c there. elim (n == k) as (λ b. (n == k) ≡ b → (not (group c == g) || b) ≡ true) [
      | true ↦ λ t. or_true (not (group c == g)) true refl
      | false ↦ λ t.
          let apart : n ≢ k = λ e. true≢false (sym (same_is n k e) ∙ t) in
          ap (λ b. not b || false) (other_group group es m g n c are (h n apart) there)
    ] refl))

none_passes : (p : Context → Bool) (es : Table Context) → Each (λ e. p e.1 ≡ false) es
    → list_any p (values_of es) ≡ false
none_passes p [] h = refl
none_passes p (e ∷ es) h = ap (λ b. b || list_any p (values_of es)) h.0 ∙ none_passes p es h.1

-- a group has a first one where a context is of it
pub first_tells :
    (group : Context → ℕ) (es : Table Context) (m : Members) (g : ℕ) (o : Option ℕ) → AreMembers group es m
    → Rises es → IfSome o (λ n. lists m g n ≡ true) → IfNone o ((n : ℕ) → lists m g n ≡ false)
    → is_some o ≡ list_any (λ c. group c == g) (values_of es)
first_tells group es m g (Some n) are rises h none = grind (arith, common_steps, some_there, any_at)
first_tells group es m g None are rises h none =
    sym (none_passes (λ d. group d == g) es
    (each_from_at (λ (e : ℕ × Context). (group e.1 == g) ≡ false) es rises
    (λ n c there. other_group group es m g n c are (none n) there)))

-- ---- which are of a group, and how many
place_total : IsTotalOrder place_cmp
place_total = then_total (on_total (λ (e : ℕ × ℕ). e.0) nat_cmp_total) (on_total (λ (e : ℕ × ℕ). e.1) nat_cmp_total)

equal : (g : ℕ) → nat_cmp g g ≡ Equal
equal g = sym (nat_cmp_is g g Equal refl)

placed_above :
    (g k : ℕ) (es : Table Context) → AllByRecursion (λ y. nat_cmp k y ≡ Less) (keys_of es)
    → AllByRecursion (λ (y : ℕ × ℕ). place_cmp (g, k) y ≡ Less) (placed g es)
placed_above g k [] h = tt
placed_above g k (e ∷ es) h =
    (ap (λ o. ordering_then o (nat_cmp k e.0)) (equal g) ∙ h.0, placed_above g k es h.1)

placed_rises : (g : ℕ) (es : Table Context) → Rises es → IsStrictlySortedBy place_cmp (placed g es)
unfolding IsStrictlySortedBy
placed_rises g [] h = tt
placed_rises g (e ∷ es) h = (placed_above g e.0 es h.0, placed_rises g es h.1)

both_or : (a c : Bool) (v : Context) (o : Option Context) → ((a && c) || (a && is_some o))
    ≡ (a && is_some (cond c (Some v) o))
both_or true true v o = refl
both_or true false v o = refl
both_or false c v o = refl

none_of : (b : Bool) → false ≡ (b && false)
none_of true = refl
none_of false = refl

any_placed :
    (h n g : ℕ) (es : Table Context)
    → list_any (is_at (place_cmp (h, n))) (placed g es) ≡ (nat_eq h g && is_some (at es n))
any_placed h n g [] = none_of (nat_eq h g)
any_placed h n g (e ∷ es) = grind (arith, common_steps, tied, nat_eq, both_or, is_some, any_placed h n g es)

some_kept : (b : Bool) (c : Context) → b ≡ is_some (cond b (Some c) None)
some_kept true c = refl
some_kept false c = refl

kept_of :
    (group : Context → ℕ) (g : ℕ) (o : Option Context)
    → is_group g (option_map group o) ≡ is_some (option_filter (λ c. group c == g) o)
kept_of group g None = refl
kept_of group g (Some c) = some_kept (nat_eq (group c) g) c

-- a pair is listed where it is to be
same_pairs :
    (group : Context → ℕ) (es : Table Context) (m : Members) (g : ℕ) (q : ℕ × ℕ) → AreMembers group es m → Rises es
    → list_any (is_at (place_cmp q)) (pairs_of m g)
    ≡ list_any (is_at (place_cmp q)) (placed g (filter (λ e. group e.1 == g) es))
same_pairs group es m g q are rises =
    let left = at (filter (λ e. group e.1 == g) es) q.1 in
    let is : left ≡ option_filter (λ c. group c == g) (at es q.1) =
    lookup-filter-values (eq_by_cmp_equiv nat_cmp_total) (λ c. group c == g) q.1 es
    (IsDistinct-from_sorted nat_cmp (keys_of es) rises) in
    any_pairs q.0 q.1 g m.pairs.keys
    ∙ (elim (nat_eq q.0 g) as (λ b. nat_eq q.0 g ≡ b → (b && lists m q.0 q.1) ≡ (b && is_some left)) [
      | true ↦ λ t.
          ap (λ (z : ℕ). lists m z q.1) (eqb-true q.0 g t)
          ∙ (are g q.1 ∙ (kept_of group g (at es q.1) ∙ ap is_some (sym is)))
      | false ↦ λ t. refl
    ] refl
    ∙ sym (any_placed q.0 q.1 g (filter (λ e. group e.1 == g) es)))

count_first :
    (p : Context → Bool) (x : Context) (xs : List Context) (b : Bool) → p x ≡ b
    → count_by p (x ∷ xs) ≡ cond b 1 0 + count_by p xs
count_first p x xs b is = sum_by-cons (λ q. cond (p q) 1 0) x xs ∙ ap (λ d. cond d 1 0 + count_by p xs) is

placed_count :
    (group : Context → ℕ) (g : ℕ) (es : Table Context)
    → length (placed g (filter (λ e. group e.1 == g) es)) ≡ count_by (λ c. group c == g) (values_of es)
placed_count group g [] = refl
placed_count group g (e ∷ es) = grind (arith, common_steps, count_first, count_by, placed_count group g es)

-- the pairs of a group are its contexts
pub pairs_are :
    (group : Context → ℕ) (es : Table Context) (m : Members) (g : ℕ) → AreMembers group es m → Rises es
    → IsStrictlySortedBy place_cmp m.pairs.keys → pairs_of m g ≡ placed g (filter (λ e. group e.1 == g) es)
pairs_are group es m g are rises sorted =
    let mine = filter (λ e. group e.1 == g) es in
    btree_set_from_contains place_total (record { keys = pairs_of m g }) (record { keys = placed g mine })
    (IsStrictlySortedBy-filter place_cmp (λ e. e.0 == g) m.pairs.keys sorted)
    (placed_rises g mine (filter_rises (λ e. group e.1 == g) es rises))
    (λ q. same_pairs group es m g q are rises)
    (exact_pairs nat_cmp nat_cmp exact_unsigned exact_unsigned)

-- a group has as many pairs as contexts
pub counted :
    (group : Context → ℕ) (es : Table Context) (m : Members) (g : ℕ) → AreMembers group es m → Rises es
    → IsStrictlySortedBy place_cmp m.pairs.keys
    → length (pairs_of m g) ≡ count_by (λ c. group c == g) (values_of es)
counted group es m g are rises sorted =
    ap length (pairs_are group es m g are rises sorted) ∙ placed_count group g es
