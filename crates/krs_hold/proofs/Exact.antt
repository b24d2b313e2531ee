-- Exact counts, as they are kept.
use Rattle.std.proofs.Common.{[], ⊎_elim, ◌+◌, ◌-◌, ◌∙◌, ◌∷◌, ◌≡◌, ap, arith, cond, is_some, IsSome, List, None}
use Rattle.std.proofs.Common.{Option, option_map, refl, Some, subst, sym, true≢false, unwrap_or, ℕ}
use Rattle.std.proofs.lemmas.Bool.{cases_eq}
use Rattle.krs_model.specs.Possession.{links_of_content}
use Rattle.krs_model.specs.{State.Key, Sweep.links_of_key, Table.{alter, at, Table, without}}
use Rattle.krs_model.proofs.Tables.Changes.{at_alter_same, at_map}
use Rattle.krs_hold.specs.Chain.{Chained, gone, gone_all, holders_at, lowered, numbers_of, rested}
use Rattle.krs_hold.specs.{Tally.{all_links, IsTallied, number_at, times}, declared.counts.Count.Count}
use Rattle.krs_hold.proofs.{Chains.falls_true, Gathered.{given_by, times-without}}
use Rattle.krs_hold.proofs.{Places.{alter_other, is_some_alter, without_other}, Times.{times-other, times-same}}
use Rattle.std.proofs.lemmas.Grind.{common_steps}

-- the counts are exact: as their numbers are
pub record IsCounted (keys : Table Key) (attached owed : List ℕ) (counts : Table Count) : Type 0 where
  pub counted : (k : ℕ) → IsSome (at keys k) → IsSome (at counts k)
  pub exact : (k : ℕ) → holders_at (at counts k) ≡ times k owed + (times k attached + times k (all_links keys))

some_shown : (o : Option Count) → is_some (option_map (λ c. c.holders) o) ≡ is_some o
some_shown None = refl
some_shown (Some c) = refl

number_shown : (o : Option Count) → unwrap_or (option_map (λ c. c.holders) o) 0 ≡ holders_at o
number_shown None = refl
number_shown (Some c) = refl

pub is_some_shown : (es : Table Count) (k : ℕ) → is_some (at (numbers_of es) k) ≡ is_some (at es k)
is_some_shown es k = ap is_some (at_map (λ c. c.holders) es k) ∙ some_shown (at es k)

pub number_is : (es : Table Count) (k : ℕ) → number_at (numbers_of es) k ≡ holders_at (at es k)
number_is es k = ap (λ (o : Option ℕ). unwrap_or o 0) (at_map (λ c. c.holders) es k) ∙ number_shown (at es k)

pub counted_from :
    (keys : Table Key) (attached owed : List ℕ) (es : Table Count) → IsTallied keys attached owed (numbers_of es)
    → IsCounted keys attached owed es
counted_from keys attached owed es h = record {
  counted = λ k s. sym (is_some_shown es k) ∙ h.counted k s;
  exact = λ k. sym (number_is es k) ∙ h.exact k;
}

pub tallied_from :
    (keys : Table Key) (attached owed : List ℕ) (es : Table Count) → IsCounted keys attached owed es
    → IsTallied keys attached owed (numbers_of es)
tallied_from keys attached owed es h = grind (arith, common_steps, is_some_shown, number_is)

pub holders_lowered : (first : Option ℕ) (c : Count) → (lowered first c).holders ≡ c.holders - 1
holders_lowered first c = grind (arith, common_steps, cond, falls_true)

lowered_at : (first : Option ℕ) (o : Option Count) → holders_at (option_map (lowered first) o) ≡ holders_at o - 1
lowered_at first None = omega arith
lowered_at first (Some c) = holders_lowered first c

-- one holder less takes off what was owed
gone_counted :
    (keys : Table Key) (attached owed : List ℕ) (es : Table Count) (first : Option ℕ) (k : ℕ)
    → IsCounted keys attached (k ∷ owed) es → IsCounted keys attached owed (alter es k (lowered first))
gone_counted keys attached owed es first k h =
    grind (
      arith,
      common_steps,
      is_some_alter,
      ⊎_elim,
      at_alter_same,
      lowered_at,
      times-same,
      alter_other,
      times-other,
      cases_eq,
    )

pub gone_all_counted :
    (keys : Table Key) (attached ks : List ℕ) (t : Chained) → IsCounted keys attached ks t.counts
    → IsCounted keys attached [] (gone_all t ks).counts
gone_all_counted keys attached [] t h = h
gone_all_counted keys attached (k ∷ ks) t h =
    grind (
      arith,
      common_steps,
      gone_counted,
      gone_all_counted keys attached ks (gone t k) (gone_counted keys attached ks t.counts t.first k h),
    )

rested_at : (o : Option Count) → holders_at (option_map rested o) ≡ holders_at o
rested_at None = refl
rested_at (Some c) = refl

rested_same : (es : Table Count) (k q : ℕ) → holders_at (at (alter es k rested) q) ≡ holders_at (at es q)
rested_same es k q = grind (arith, common_steps, ⊎_elim, at_alter_same, rested_at, alter_other, cases_eq)

pub rested_counted :
    (keys : Table Key) (attached owed : List ℕ) (es : Table Count) (k : ℕ) → IsCounted keys attached owed es
    → IsCounted keys attached owed (alter es k rested)
rested_counted keys attached owed es k h = grind (arith, common_steps, is_some_alter, rested_same)

given-links : (o : Option Key) → given_by (λ key. links_of_content key.content) o ≡ links_of_key o
given-links None = refl
given-links (Some key) = refl

-- the links of a key that goes
pub links-without :
    (keys : Table Key) (k q : ℕ)
    → times q (links_of_key (at keys k)) + times q (all_links (without keys k)) ≡ times q (all_links keys)
links-without keys k q =
    ap (λ xs. times q xs + times q (all_links (without keys k))) (sym (given-links (at keys k)))
    ∙ times-without (λ key. links_of_content key.content) keys k q

-- a key goes that nothing holds, and what it linked is owed
pub dropped_counted :
    (keys : Table Key) (attached : List ℕ) (es : Table Count) (k : ℕ) → holders_at (at es k) ≡ 0
    → at (without keys k) k ≡ None → at (without es k) k ≡ None → IsCounted keys attached [] es
    → IsCounted (without keys k) attached (links_of_key (at keys k)) (without es k)
dropped_counted keys attached es k zero no_key no_count h =
    let ks = without keys k in
    let fs = without es k in
    record {
      counted = λ q s. ⊎_elim
          (λ (e : q ≡ k). absurd (true≢false (sym s ∙ (ap (λ (z : ℕ). is_some (at ks z)) e ∙ ap is_some no_key))))
          (λ (n : q ≡ k → ⊥).
          subst IsSome (sym (without_other es k q n)) (h.counted q (subst IsSome (without_other keys k q n) s)))
          (cases_eq q k);
      exact = λ q.
          let was = h.exact q in
          let split = links-without keys k q in
          let same : holders_at (at fs q) ≡ holders_at (at es q) = ⊎_elim
          (λ (e : q ≡ k). subst (λ (z : ℕ). holders_at (at fs z) ≡ holders_at (at es z)) (sym e)
          (ap holders_at no_count ∙ sym zero))
          (λ (n : q ≡ k → ⊥). ap holders_at (without_other es k q n)) (cases_eq q k) in
          omega (arith, was, split, same);
    }
