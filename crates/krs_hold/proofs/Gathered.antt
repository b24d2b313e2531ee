-- What the entries of a table give, one after the other, as its entries change.
use Rattle.std.proofs.Common.{[], ◌++◌, ◌+◌, ◌∷◌, ◌≡◌, ap, arith, Bool, cond, false, filter, flat_map, is_eq, List}
use Rattle.std.proofs.Common.{nat_cmp, None, not, Option, refl, Some, sym, true, ℕ}
use Rattle.std.specs.{BTreeMap.is_at, Ordering.match_ordering, declared.cmp.Ordering.TheVariants.{Equal, Greater, Less}}
use Rattle.std.proofs.lemmas.Option.{none-some, same_Some}
use Rattle.krs_model.specs.Table.{alter, at, put, Table, without}
use Rattle.krs_hold.specs.Tally.{times}
use Rattle.krs_hold.proofs.Times.{times-append}
use Rattle.std.proofs.lemmas.Grind.{common_steps}

-- what each entry gives, one after the other: the attachments of contexts, or the links of keys
abbrev pub gathered : {X : Type 0} → (X → List ℕ) → Table X → List ℕ
gathered g es = flat_map (λ e. g e.1) es

-- what is given at a number
abbrev pub given_by : {X : Type 0} → (X → List ℕ) → Option X → List ℕ
given_by g None = []
given_by g (Some v) = g v

-- a further entry
pub times-put :
    {X : Type 0} (g : X → List ℕ) (es : Table X) (k : ℕ) (v : X) (q : ℕ) → at es k ≡ None
    → times q (gathered g (put es k v)) ≡ times q (g v) + times q (gathered g es)
times-put g [] k v q none = times-append q (g v) []
times-put g (e ∷ es) k v q none =
    elim (nat_cmp k e.0) as (λ r. nat_cmp k e.0 ≡ r → cond (is_eq r) (Some e.1) (at es k) ≡ None
    → times q (gathered g (match_ordering r ((k, v) ∷ e ∷ es) ((e.0, v) ∷ es) (e ∷ put es k v)))
    ≡ times q (g v) + times q (g e.1 ++ gathered g es)) [
      | Less ↦ λ t n. times-append q (g v) (g e.1 ++ gathered g es)
      | Equal ↦ λ t n. absurd (none-some e.1 (sym n))
      | Greater ↦ λ t n.
          let later = times-put g es k v q n in
          let was = times-append q (g e.1) (gathered g es) in
          let now = times-append q (g e.1) (gathered g (put es k v)) in
          omega (arith, later, was, now)
    ] refl none

-- an entry that is taken out
pub times-without :
    {X : Type 0} (g : X → List ℕ) (es : Table X) (k q : ℕ)
    → times q (given_by g (at es k)) + times q (gathered g (without es k)) ≡ times q (gathered g es)
times-without g [] k q = omega arith
times-without g (e ∷ es) k q =
    grind (arith, common_steps, times-append, gathered, nat_cmp, given_by, cond, times-without g es k q)

-- an entry that is changed
pub times-alter :
    {X : Type 0} (g : X → List ℕ) (es : Table X) (k : ℕ) (f : X → X) (q : ℕ) (v : X) → at es k ≡ Some v
    → times q (g (f v)) + times q (gathered g es) ≡ times q (g v) + times q (gathered g (alter es k f))
times-alter g [] k f q v h = absurd (none-some v h)
times-alter g (e ∷ es) k f q v h =
    let was = times-append q (g e.1) (gathered g es) in
    elim (is_at (nat_cmp k) e.0) as (λ b. cond b (Some e.1) (at es k) ≡ Some v
    → times q (g (f v)) + times q (g e.1 ++ gathered g es)
    ≡ times q (g v) + times q (gathered g (cond b ((e.0, f e.1) ∷ es) (e ∷ alter es k f)))) [
      | true ↦ λ t.
          let same : times q (g e.1) ≡ times q (g v) = ap (λ x. times q (g x)) (same_Some e.1 v t) in
          let new : times q (g (f e.1)) ≡ times q (g (f v)) = ap (λ x. times q (g (f x))) (same_Some e.1 v t) in
          let now = times-append q (g (f e.1)) (gathered g es) in
          omega (arith, was, same, new, now)
      | false ↦ λ t.
          let later = times-alter g es k f q v t in
          let now = times-append q (g e.1) (gathered g (alter es k f)) in
          omega (arith, later, was, now)
    ] h

-- the entries that stay, and those that go
pub times-filter :
    {X : Type 0} (g : X → List ℕ) (stays : ℕ × X → Bool) (es : Table X) (q : ℕ)
    → times q (gathered g (filter stays es)) + times q (gathered g (filter (λ e. not (stays e)) es))
    ≡ times q (gathered g es)
times-filter g stays [] q = omega arith
times-filter g stays (e ∷ es) q =
    grind (arith, common_steps, times-append, gathered, cond, filter, times-filter g stays es q)
