-- What is listed under a group, and what after a change of the table.
use Rattle.std.proofs.Common.{[], ◌&&◌, ◌+◌, ◌<◌, ◌==◌, ◌||◌, ◌∙◌, ◌∷◌, ◌≡◌, ◌≤◌, ap, arith, Bool, Bor, cond, eqb-true}
use Rattle.std.proofs.Common.{false, filter, is_eq, is_le, length, List, nat_cmp, nat_eq, None, not, Option, option_map}
use Rattle.std.proofs.Common.{refl, Some, suc, sym, true, true≢false, ℕ}
use Rattle.std.specs.{BTreeMap.{is_at, Range.range_contains}, Cmp.{nat_cmp_is, ranked, unsigned_tied}, Iterator.Yields}
use Rattle.std.specs.{List.{AllByRecursion, list_any}, Map.Iter.{deref, TakesFirst}, Ordering.ordering_then}
use Rattle.std.specs.declared.cmp.Ordering.{Ordering, TheVariants.{Equal, Greater, Less}}
use Rattle.std.specs.declared.ops.Bound.TheVariants.{Excluded, Included}
use Rattle.std.proofs.lemmas.Bool.Decides.{nat_tests}
use Rattle.krs_types.specs.declared.context.Context.{Context}
use Rattle.krs_model.specs.{Queues.place_cmp, Table.{alter, at, map_values, put, Table, without}}
use Rattle.krs_model.proofs.Tables.{Changes.{at_map, at_put_other, at_put_same, at_without_other}, Distinct.at_alter}
use Rattle.krs_ctx.specs.Members.{Adds, AreMembers, is_group, lists, pairs_of, Removes}
use Rattle.krs_ctx.specs.declared.members.Members.{Members}
use Rattle.std.proofs.lemmas.Grind.{common_steps}

-- ---- two pairs
then_tied : (o p : Ordering) → is_eq (ordering_then o p) ≡ (is_eq o && is_eq p)
then_tied Less p = refl
then_tied Equal p = refl
then_tied Greater p = refl

-- two pairs are one where both numbers are
pub tied : (a b : ℕ) (e : ℕ × ℕ) → is_at (place_cmp (a, b)) e ≡ (nat_eq a e.0 && nat_eq b e.1)
tied a b e = grind (arith, common_steps, then_tied, nat_cmp, is_eq, nat_eq)

first_of_both : (a b : Bool) → (a && b) ≡ true → a ≡ true
first_of_both true b h = refl
first_of_both false b h = h

last_of_both : (a b : Bool) → (a && b) ≡ true → b ≡ true
last_of_both true b h = h
last_of_both false b h = absurd (true≢false (sym h))

-- a pair that is found is of the group
pub of_group : (g n : ℕ) (e : ℕ × ℕ) → is_at (place_cmp (g, n)) e ≡ true → g ≡ e.0
of_group g n e t = eqb-true g e.0 (first_of_both (nat_eq g e.0) (nat_eq n e.1) (sym (tied g n e) ∙ t))

same : (k : ℕ) → nat_eq k k ≡ true
same k = grind (arith, nat_tests)

-- ---- the range of a group
at_or_below : (m n : ℕ) → m ≤ n → is_le (nat_cmp m n) ≡ true
at_or_below m n h =
    elim (nat_cmp m n) as (λ o. nat_cmp m n ≡ o → is_le o ≡ true) [
      | Less ↦ λ t. refl
      | Equal ↦ λ t. refl
      | Greater ↦ λ t. let more : n < m = ranked m n Greater (sym t) in absurd (omega arith)
    ] refl

above : (m n : ℕ) → n < m → is_le (nat_cmp m n) ≡ false
above m n h = let more : nat_cmp m n ≡ Greater = sym (nat_cmp_is m n Greater h) in rw more refl

-- from a group on, whatever the number
from : (o : Ordering) (n : ℕ) → is_le (ordering_then o (nat_cmp 0 n)) ≡ is_le o
from Less n = refl
from Equal n = at_or_below 0 n (omega arith)
from Greater n = refl

-- from a group to the next
within : (g a : ℕ) → (is_le (nat_cmp g a) && not (is_le (nat_cmp (g + 1) a))) ≡ (a == g)
within g a =
    elim (nat_cmp g a) as
    (λ o. nat_cmp g a ≡ o → (is_le o && not (is_le (nat_cmp (g + 1) a))) ≡ (a == g)) [
      | Less ↦ λ t.
          let less : g < a = ranked g a Less (sym t) in
          let other : (a == g) ≡ false = grind (arith, nat_tests) in
          ap not (at_or_below (g + 1) a (omega arith)) ∙ sym other
      | Equal ↦ λ t.
          let is : g ≡ a = ranked g a Equal (sym t) in
          let one : (a == g) ≡ true = grind (arith, nat_tests) in
          ap not (above (g + 1) a (omega arith)) ∙ sym one
      | Greater ↦ λ t.
          let more : a < g = ranked g a Greater (sym t) in
          let other : (a == g) ≡ false = grind (arith, nat_tests) in
          sym other
    ] refl

between :
    (g : ℕ) (e : ℕ × ℕ) → range_contains place_cmp (Included (g, 0)) (Excluded (g + 1, 0)) e ≡ (e.0 == g)
between g e = grind (arith, common_steps, is_le, from, nat_cmp, within)

filter_alike :
    {X : Type 0} (p q : X → Bool) (xs : List X) → ((x : X) → p x ≡ q x) → filter p xs ≡ filter q xs
filter_alike p q [] h = refl
filter_alike p q (x ∷ xs) h = grind (arith, common_steps, filter_alike p q xs h)

-- the pairs from a group to the next are those of the group
pub range_is :
    (g : ℕ) (ks : List (ℕ × ℕ))
    → filter (range_contains place_cmp (Included (g, 0)) (Excluded (g + 1, 0))) ks ≡ filter (λ e. e.0 == g) ks
range_is g ks = filter_alike _ (λ e. e.0 == g) ks (between g)

-- ---- a context more, and a context less
apart : (k q : ℕ) → nat_eq k q ≡ false → is_at (nat_cmp q) k ≡ false
apart k q h = grind (arith, nat_tests, unsigned_tied q k)

-- what is at a number after a value was put at that one or another
pub at_put :
    {X : Type 0} (es : Table X) (k q : ℕ) (v : X) → at (put es k v) q ≡ cond (nat_eq k q) (Some v) (at es q)
at_put es k q v = grind (arith, common_steps, nat_eq, eqb-true, at_put_same, at_put_other, apart)

-- what is at a number after that one, or another, was taken out
pub at_without :
    {X : Type 0} (es : Table X) (k q : ℕ) → at (without es k) k ≡ None
    → at (without es k) q ≡ cond (nat_eq k q) None (at es q)
at_without es k q gone = grind (arith, common_steps, nat_eq, eqb-true, at_without_other, apart)

either : {X Y : Type 0} (f : X → Y) (b : Bool) (o r : X) → f (cond b o r) ≡ cond b (f o) (f r)
either f true o r = refl
either f false o r = refl

always : (b c : Bool) → cond b c c ≡ c
always true c = refl
always false c = refl

more : (b c l : Bool) → (c ≡ true → l ≡ false) → cond (b && c) true l ≡ cond c b l
more true true l h = refl
more true false l h = refl
more false true l h = h refl
more false false l h = refl

less : (b c l : Bool) → (c ≡ true → l ≡ b) → cond (b && c) false l ≡ cond c false l
less true true l h = refl
less true false l h = refl
less false true l h = h refl
less false false l h = refl

back : (d l : Bool) → (d ≡ true → l ≡ false) → cond d false (cond d true l) ≡ l
back true l h = sym (h refl)
back false l h = refl

-- what was so of a number is so of an equal one
at_equal : (P : ℕ → Bool) (k q : ℕ) (b : Bool) → P k ≡ b → nat_eq k q ≡ true → P q ≡ b
at_equal P k q b h t = ap P (sym (eqb-true k q t)) ∙ h

-- no context of this number is listed
none_listed :
    (group : Context → ℕ) (es : Table Context) (m : Members) (k g : ℕ) → at es k ≡ None
    → AreMembers group es m → lists m g k ≡ false
none_listed group es m k g absent are = are g k ∙ ap (λ o. is_group g (option_map group o)) absent

-- one more is listed, and is there
pub added :
    (group : Context → ℕ) (es : Table Context) (old new : Members) (k : ℕ) (v : Context) → at es k ≡ None
    → Adds old new (group v) k → AreMembers group es old → AreMembers group (put es k v) new
added group es old new k v absent adds are g n =
    grind (arith, common_steps, more, nat_eq, at_equal, none_listed, either, option_map, at_put)

-- one is listed no more, and is gone
pub removed :
    (group : Context → ℕ) (es : Table Context) (old new : Members) (k : ℕ) (v : Context) → at es k ≡ Some v
    → at (without es k) k ≡ None → Removes old new (group v) k → AreMembers group es old
    → AreMembers group (without es k) new
removed group es old new k v there gone removes are g n =
    grind (arith, common_steps, less, nat_eq, at_equal, option_map, either, at_without)

-- one was listed that is not there, and is listed no more
pub taken_back :
    (group : Context → ℕ) (es : Table Context) (old mid new : Members) (k h : ℕ) → at es k ≡ None
    → Adds old mid h k → Removes mid new h k → AreMembers group es old → AreMembers group es new
taken_back group es old mid new k h absent adds removes are g n =
    grind (arith, common_steps, nat_eq, back, at_equal, none_listed, last_of_both)

-- a change of contexts that keeps what each is of
changed :
    (group : Context → ℕ) (f : Context → Context) (g : ℕ) → ((c : Context) → group (f c) ≡ group c)
    → (o : Option Context) → is_group g (option_map group (option_map f o)) ≡ is_group g (option_map group o)
changed group f g keeps None = refl
changed group f g keeps (Some c) = ap (λ h. nat_eq h g) (keeps c)

pub mapped :
    (group : Context → ℕ) (es : Table Context) (m : Members) (f : Context → Context)
    → ((c : Context) → group (f c) ≡ group c) → AreMembers group es m → AreMembers group (map_values f es) m
mapped group es m f keeps are g n = grind (arith, common_steps, option_map, at_map, changed)

pub altered :
    (group : Context → ℕ) (es : Table Context) (m : Members) (k : ℕ) (f : Context → Context)
    → ((c : Context) → group (f c) ≡ group c) → AreMembers group es m → AreMembers group (alter es k f) m
altered group es m k f keeps are g n =
    grind (arith, common_steps, option_map, at_alter, either, nat_cmp, changed, always)

-- ---- what is listed under a group
inside : (a b l : Bool) → (a ≡ true → b ≡ true) → (a || (b && l)) ≡ (b && (a || l))
inside true b l h = sym (ap (λ x. x && true) (h refl))
inside false b l h = refl

outside : (a b l : Bool) → (a ≡ true → b ≡ false) → (b && l) ≡ (b && (a || l))
outside true b l h = ap (λ x. x && l) (h refl) ∙ sym (ap (λ x. x && true) (h refl))
outside false b l h = refl

no_more : (b : Bool) → false ≡ (b && false)
no_more true = refl
no_more false = refl

pub any_pairs :
    (h n g : ℕ) (ks : List (ℕ × ℕ))
    → list_any (is_at (place_cmp (h, n))) (filter (λ e. e.0 == g) ks)
    ≡ (nat_eq h g && list_any (is_at (place_cmp (h, n))) ks)
any_pairs h n g [] = no_more (nat_eq h g)
any_pairs h n g (x ∷ xs) = grind (arith, common_steps, nat_eq, of_group, inside, outside, any_pairs h n g xs)

-- what is listed under a group is among its pairs
pub listed_among :
    (m : Members) (g n : ℕ) → lists m g n ≡ list_any (is_at (place_cmp (g, n))) (pairs_of m g)
listed_among m g n = grind (arith, common_steps, any_pairs, same)

-- each of its pairs is of the group
pub of_one : (g : ℕ) (ks : List (ℕ × ℕ)) → AllByRecursion (λ (e : ℕ × ℕ). g ≡ e.0) (filter (λ e. e.0 == g) ks)
of_one g [] = tt
of_one g (x ∷ xs) = grind (arith, common_steps, eqb-true, of_one g xs)

-- a pair is found by its number
pub found : (g : ℕ) (e : ℕ × ℕ) → g ≡ e.0 → is_at (place_cmp (g, e.1)) e ≡ true
found g e is = grind (arith, common_steps, tied, nat_eq, same)

-- the first of a group is listed
pub first_listed : (m : Members) (g : ℕ) (e : ℕ × ℕ) (t : List (ℕ × ℕ)) → pairs_of m g ≡ e ∷ t → lists m g e.1 ≡ true
first_listed m g e t is = grind (arith, common_steps, of_one, listed_among, found)

-- a group with no pairs has none
pub nothing_listed : (m : Members) (g n : ℕ) → pairs_of m g ≡ [] → lists m g n ≡ false
nothing_listed m g n is = listed_among m g n ∙ ap (list_any (is_at (place_cmp (g, n)))) is

-- all of a list came, and nothing else
pub drained :
    (s : List (ℕ × ℕ)) (xs : List (Bor (ℕ × ℕ))) (t u : List (ℕ × ℕ)) → Yields (TakesFirst deref) s xs t
    → TakesFirst deref t None u → length xs ≡ length s
drained s [] t u y n = sym (ap length (y ∙ n.0))
drained s (x ∷ xs) t u y n = ap suc (drained y.0 xs t u y.2 n) ∙ sym (ap length y.1)
