-- Tables in which no number stands twice.
pub use Rattle.krs_model.proofs.Tables.Changes.{same_test}
use Rattle.std.proofs.Common.{[], ◌==◌, ◌∷◌, ◌≡◌, arith, Bool, cond, false, filter, is_some, nat_cmp}
use Rattle.std.proofs.{Common.{None, option_map, refl, Some, ℕ}, lemmas.Bool.Decides.nat_tests}
use Rattle.std.proofs.lemmas.Option.{none-some}
use Rattle.std.specs.{BTreeMap.is_at, List.list_any}
use Rattle.krs_model.specs.Table.{alter, at, IsDistinct, put, Table, without}
use Rattle.krs_model.proofs.Tables.Changes.{at_alter_none, at_alter_other, at_alter_same, at_filter_none, at_or_apart}
use Rattle.krs_model.proofs.Tables.Changes.{at_put_other, at_without_none, same_at, same_test}
use Rattle.std.proofs.lemmas.Grind.{common_steps}

-- a table has something at a number where one of its entries is of that number
pub has_entry : {X : Type 0} (es : Table X) (q : ℕ) → is_some (at es q) ≡ list_any (λ e. e.0 == q) es
has_entry [] q = refl
has_entry (e ∷ es) q = grind (arith, common_steps, is_some, same_test, has_entry es q)

-- what is at a number after a change at that one or another
pub at_alter :
    {X : Type 0} (es : Table X) (k q : ℕ) (f : X → X)
    → at (alter es k f) q ≡ cond (is_at (nat_cmp q) k) (option_map f (at es q)) (at es q)
at_alter es k q f = grind (arith, nat_tests, same_at, at_alter_same, at_alter_other)

pub alter_distinct : {X : Type 0} (es : Table X) (k : ℕ) (f : X → X) → IsDistinct es → IsDistinct (alter es k f)
alter_distinct [] k f h = tt
alter_distinct (e ∷ es) k f h = grind (arith, nat_tests, at_alter_none, alter_distinct es k f h.1)

pub filter_distinct :
    {X : Type 0} (p : ℕ × X → Bool) (es : Table X) → IsDistinct es → IsDistinct (filter p es)
filter_distinct p [] h = tt
filter_distinct p (e ∷ es) h = grind (arith, nat_tests, at_filter_none, filter_distinct p es h.1)

pub without_distinct : {X : Type 0} (es : Table X) (k : ℕ) → IsDistinct es → IsDistinct (without es k)
without_distinct [] k h = tt
without_distinct (e ∷ es) k h = grind (arith, common_steps, nat_cmp, at_without_none, without_distinct es k h.1)

-- nothing is left of a number
pub at_without_same : {X : Type 0} (es : Table X) (k : ℕ) → IsDistinct es → at (without es k) k ≡ None
at_without_same [] k h = refl
at_without_same (e ∷ es) k h = grind (arith, nat_tests, same_at, at_without_same es k h.1)

apart_of : {X : Type 0} (e : ℕ × X) (es : Table X) (n : ℕ) → at (e ∷ es) n ≡ None → is_at (nat_cmp e.0) n ≡ false
apart_of e es n none = grind (arith, nat_tests, none-some, at_or_apart)

none_rest : {X : Type 0} (e : ℕ × X) (es : Table X) (n : ℕ) → at (e ∷ es) n ≡ None → at es n ≡ None
none_rest e es n none = grind (arith, nat_tests, none-some)

pub put_distinct :
    {X : Type 0} (es : Table X) (n : ℕ) (v : X) → at es n ≡ None → IsDistinct es → IsDistinct (put es n v)
put_distinct [] n v none h = (refl, tt)
put_distinct (e ∷ es) n v none h =
    grind (arith, nat_tests, at_put_other, apart_of, none_rest, put_distinct es n v (none_rest e es n none) h.1)

-- what a filter leaves at a number was there
pub at_filter_some :
    {X : Type 0} (p : ℕ × X → Bool) (es : Table X) (q : ℕ) (v : X) → IsDistinct es → at (filter p es) q ≡ Some v
    → at es q ≡ Some v
at_filter_some p [] q v h there = there
at_filter_some p (e ∷ es) q v h there = grind (arith, nat_tests, none-some, same_at, at_filter_some p es q v h.1)
