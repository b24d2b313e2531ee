-- To let go of a key as often as something holds it is to empty its count at once.
use Rattle.std.proofs.Common.{[], ◌&&◌, ◌-◌, ◌∙◌, ◌∷◌, ◌≡◌, ap, arith, Bool, cond, false, nat_cmp, nat_lt, not, Option}
use Rattle.std.proofs.Common.{refl, replicate, Some, suc, sym, true, true≢false, zero, ℕ}
use Rattle.std.specs.BTreeMap.{is_at}
use Rattle.std.proofs.lemmas.Bool.Decides.{nat_tests}
use Rattle.krs_model.specs.Table.{alter, at, Table}
use Rattle.krs_hold.specs.Chain.{Chained, emptied, empties, falls, falls_at, gone, gone_all, lowered, unheld}
use Rattle.krs_hold.specs.declared.counts.Count.{Count}
use Rattle.krs_hold.proofs.{Chains.{falls_false, falls_true, lowered_falls, lowered_stays}, Places.{alter_to, at_some}}
use Rattle.std.proofs.lemmas.Grind.{common_steps}
use Rattle.krs_links.proofs.IndexLemmas.{never_both}

-- a change that leaves what is there
alter_same : {X : Type 0} (es : Table X) (k : ℕ) (f : X → X) (v : X) → at es k ≡ Some v → f v ≡ v → alter es k f ≡ es
alter_same [] k f v h e = refl
alter_same (d ∷ es) k f v h e =
    elim (is_at (nat_cmp k) d.0) as (λ b. cond b (Some d.1) (at es k) ≡ Some v
    → cond b ((d.0, f d.1) ∷ es) (d ∷ alter es k f) ≡ d ∷ es) [
      | true ↦ λ q. grind arith
      | false ↦ λ q. ap (λ zs. d ∷ zs) (alter_same es k f v q e)
    ] h

-- two changes that make the same of what is there
alter_as : {X : Type 0} (es : Table X) (k : ℕ) (f g : X → X) (v : X) → at es k ≡ Some v → f v ≡ g v
    → alter es k f ≡ alter es k g
alter_as es k f g v h e = sym (alter_to es k f v (g v) h e) ∙ alter_to es k g v (g v) h refl

-- one change after the other
alter_twice : {X : Type 0} (es : Table X) (k : ℕ) (f g : X → X)
    → alter (alter es k f) k g ≡ alter es k (λ v. g (f v))
alter_twice [] k f g = refl
alter_twice (d ∷ es) k f g = grind (arith, common_steps, nat_cmp, cond, alter_twice es k f g)

-- the counts and the chain after a count was emptied
abbrev pub without_holders : Chained → ℕ → Count → Chained
without_holders t k c =
    record { counts = alter t.counts k (emptied t.first); first = cond (empties c) (Some k) t.first }

abbrev pub chained : Table Count → Option ℕ → Chained
chained es first = record { counts = es; first = first }

empties_none : (c : Count) → c.holders ≡ 0 → empties c ≡ false
empties_none c z = grind (arith, common_steps, nat_lt, nat_tests)

empties_some : (n : ℕ) (w : Bool) → n ≡ 1 → w ≡ false → (nat_lt 0 n && not w) ≡ true
empties_some n w one free = grind (arith, common_steps, nat_lt, nat_tests)

some_more : (m : ℕ) → (m ≡ 0 → ⊥) → (nat_lt 0 m && true) ≡ (nat_lt 0 (suc m) && true)
some_more m n = grind (arith, common_steps, nat_lt, nat_tests)

pub same_chain : (a b : Table Count) (x y : Option ℕ) → a ≡ b → x ≡ y
    → chained a x ≡ chained b y
same_chain a b x y e f = cc

and_false : (x y : Bool) → (x && false) ≡ (y && false)
and_false x y = never_both x ∙ sym (never_both y)

-- a count that has none is empty
emptied_none : (first : Option ℕ) (c : Count) → c.holders ≡ 0 → emptied first c ≡ c
emptied_none first c z = grind (arith, common_steps, cond, empties_none)

-- its last holder goes
empties_falls : (c : Count) → falls c ≡ true → empties c ≡ true
empties_falls c f = empties_some c.holders c.waiting (falls_true c f).0 (falls_true c f).1

-- it has more
empties_more : (m : ℕ) (w : Bool) → (m ≡ 0 → w ≡ true) → (nat_lt 0 m && not w) ≡ (nat_lt 0 (suc m) && not w)
empties_more m w last = grind (arith, common_steps, nat_lt, and_false, some_more, true≢false)

-- the last of them
last_goes : (m : ℕ) (t : Chained) (k : ℕ) (c : Count) → at t.counts k ≡ Some c → c.holders ≡ suc m → falls c ≡ true
    → gone_all (gone t k) (replicate m k) ≡ without_holders t k c
last_goes m t k c h z f =
    grind (arith, common_steps, falls_true, replicate, same_chain, alter_as, lowered_falls, cond, empties_falls)

-- one that is not the last
one_goes : (m : ℕ) (t : Chained) (k : ℕ) (c : Count) → at t.counts k ≡ Some c → c.holders ≡ suc m → falls c ≡ false
    → without_holders (gone t k) k (record c { holders = c.holders - 1 }) ≡ without_holders t k c
one_goes m t k c h z f =
    let less : c.holders - 1 ≡ m = omega (arith, z) in
    let first : (gone t k).first ≡ t.first = ap (λ o. cond (falls_at o) (Some k) t.first) h
    ∙ ap (λ b. cond b (Some k) t.first) f in
    let same : empties (record c { holders = c.holders - 1 }) ≡ empties c =
    ap (λ (n : ℕ). nat_lt 0 n && not c.waiting) less
    ∙ (empties_more m c.waiting (λ e. falls_false c f (z ∙ ap suc e))
    ∙ ap (λ (n : ℕ). nat_lt 0 n && not c.waiting) (sym z)) in
    same_chain _ _ _ _
    (ap (λ o. alter (alter t.counts k (lowered t.first)) k (emptied o)) first
    ∙ (alter_twice t.counts k (lowered t.first) (emptied t.first)
    ∙ alter_as t.counts k (λ v. emptied t.first (lowered t.first v)) (emptied t.first) c h
    (ap (emptied t.first) (lowered_stays t.first c f)
    ∙ ap (λ b. cond b (unheld t.first) (record c { holders = 0 })) same)))
    (ap (λ o. cond (empties (record c { holders = c.holders - 1 })) (Some k) o) first
    ∙ ap (λ b. cond b (Some k) t.first) same)

pub emptied_whole : (n : ℕ) (t : Chained) (k : ℕ) (c : Count) → at t.counts k ≡ Some c → c.holders ≡ n
    → gone_all t (replicate n k) ≡ without_holders t k c
emptied_whole zero t k c h z =
    same_chain _ _ _ _ (sym (alter_same t.counts k (emptied t.first) c h (emptied_none t.first c z)))
    (sym (ap (λ b. cond b (Some k) t.first) (empties_none c z)))
emptied_whole (suc m) t k c h z =
    elim (falls c) as (λ b. falls c ≡ b → gone_all (gone t k) (replicate m k) ≡ without_holders t k c) [
      | true ↦ λ f. last_goes m t k c h z f
      | false ↦ λ f.
          let less : c.holders - 1 ≡ m = omega (arith, z) in
          let here : at (gone t k).counts k ≡ Some (record c { holders = c.holders - 1 }) =
          at_some t.counts k (lowered t.first) c h ∙ ap Some (lowered_stays t.first c f) in
          emptied_whole m (gone t k) k (record c { holders = c.holders - 1 }) here less ∙ one_goes m t k c h z f
    ] refl
