-- Entries of tables in which no number stands twice: where they are found, and where they stay.
use Rattle.std.proofs.Common.{[], ⊎_elim, ◌∷◌, ◌≡◌, arith, Bool, cond, false, filter, IsSome, None, refl, Some, sym}
use Rattle.std.proofs.{Common.{true, true≢false, ℕ}, lemmas.{Bool.Decides.nat_tests, Option.{none-some, same_Some}}}
use Rattle.std.specs.{List.{AllByRecursion, list_any, Sorted.IsStrictlySortedBy}, Map.{keys_of, values_of}}
use Rattle.krs_model.specs.Table.{at, IsDistinct, Rises, Table, without}
use Rattle.krs_model.proofs.Tables.Changes.{at_or_apart, at_without_other, is_at_same, same_at}
use Rattle.krs_model.proofs.Tables.{Distinct.at_without_same, Rising.Above}
use Rattle.std.proofs.lemmas.Grind.{common_steps}

none_above :
    {X : Type 0} (es : Table X) (n : ℕ) → AllByRecursion (Above n) (keys_of es) → at es n ≡ None
none_above [] n all = refl
none_above (e ∷ es) n all = rw all.0 (none_above es n all.1)

pub rises_distinct : {X : Type 0} (es : Table X) → Rises es → IsDistinct es
unfolding IsStrictlySortedBy
rises_distinct [] rises = tt
rises_distinct (e ∷ es) rises = (none_above es e.0 rises.0, rises_distinct es rises.1)

-- an entry that is there
pub record IsEntry {X : Type 0} (es : Table X) (P : X → Type 0) : Type 0 where
  pub number : ℕ
  pub value : X
  pub there : at es number ≡ Some value
  pub holds : P value

-- the entry of a first number, or a later one
pub later_entry :
    {X : Type 0} (P : X → Type 0) (e : ℕ × X) (es : Table X) → IsDistinct (e ∷ es) → IsEntry es P → IsEntry (e ∷ es) P
later_entry {X} P e es distinct entry = grind (arith, nat_tests, none-some, same_at)

pub first_entry : {X : Type 0} (P : X → Type 0) (e : ℕ × X) (es : Table X) → P e.1 → IsEntry (e ∷ es) P
first_entry {X} P e es h = record { number = e.0; value = e.1; there = rw (is_at_same e.0) refl; holds = h }

-- an entry that passes a test
pub find_entry :
    {X : Type 0} (test : X → Bool) (es : Table X) → IsDistinct es → list_any test (values_of es) ≡ true
    → IsEntry es (λ v. test v ≡ true)
find_entry test [] distinct h = absurd (true≢false (sym h))
find_entry test (e ∷ es) distinct h =
    grind (arith, nat_tests, first_entry, later_entry, find_entry test es distinct.1)

-- a value that passes a test is among those that are tested
pub entry_passes :
    {X : Type 0} (test : X → Bool) (es : Table X) (k : ℕ) (v : X) → at es k ≡ Some v → test v ≡ true
    → list_any test (values_of es) ≡ true
entry_passes test [] k v there h = absurd (none-some v there)
entry_passes test (e ∷ es) k v there h = grind (arith, nat_tests, true≢false, same_Some, entry_passes test es k v)

-- an entry that passes stays
pub filter_still :
    {X : Type 0} (p : ℕ × X → Bool) (es : Table X) (k : ℕ) (v : X) → at es k ≡ Some v → p (k, v) ≡ true
    → at (filter p es) k ≡ Some v
filter_still p [] k v there h = absurd (none-some v there)
filter_still p (e ∷ es) k v there h = grind (arith, nat_tests, same_Some, same_at, filter_still p es k v)

-- what is left where an entry goes unless it stays was there; and that entry stays where it is left
pub record IsLeft {X : Type 0} (es : Table X) (k : ℕ) (stays : Bool) (q : ℕ) : Type 0 where
  pub was : IsSome (at es q)
  pub same : q ≡ k → stays ≡ true

pub left_unless :
    {X : Type 0} (es : Table X) (k q : ℕ) (stays : Bool) → IsDistinct es → IsSome (at (cond stays es (without es k)) q)
    → IsLeft es k stays q
left_unless es k q true distinct there = record { was = there; same = λ e. refl }
left_unless es k q false distinct there =
    grind (arith, nat_tests, true≢false, at_without_same, at_without_other, is_at_same, at_or_apart)

-- another entry stays
pub still_unless :
    {X : Type 0} (es : Table X) (k q : ℕ) (stays : Bool) → (q ≡ k → ⊥) → at (cond stays es (without es k)) q ≡ at es q
still_unless es k q true other = refl
still_unless es k q false other = grind (arith, common_steps, ⊎_elim, at_without_other, at_or_apart)

-- what is left was there
pub without_was :
    {X : Type 0} (es : Table X) (k q : ℕ) (v : X) → IsDistinct es → at (without es k) q ≡ Some v → at es q ≡ Some v
without_was es k q v distinct h = grind (arith, nat_tests, none-some, at_without_same, at_without_other, at_or_apart)
