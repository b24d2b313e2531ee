-- Laws of the chain of the counts that wait.
use Rattle.std.proofs.Common.{[], ⊎_elim, ◌+◌, ◌-◌, ◌<◌, ◌∙◌, ◌∷◌, ◌≡◌, ◌≤◌, ap, arith, cond, false}
use Rattle.std.proofs.Common.{is_some, IsSome, List, nat_cmp, None, Option, option_map, refl, Some, subst, sym}
use Rattle.std.proofs.Common.{true, true≢false, ℕ}
use Rattle.std.specs.BTreeMap.{is_at}
use Rattle.std.proofs.lemmas.{Bool.{cases_eq, Decides.nat_tests}, Option.{none-some, same_Some}}
use Rattle.krs_model.specs.{Levels.is_in, Table.{alter, at, put, Table, without}}
use Rattle.krs_model.proofs.Tables.Changes.{alter_none, at_alter_same, at_put_same}
use Rattle.krs_hold.specs.Chain.{Chained, falls, falls_at, gone, gone_all, holders_at, is_waiting, IsChain, IsChained}
use Rattle.krs_hold.specs.{Chain.{lowered, next_at, raised, rested, total_weight, weight}, declared.counts.Count.Count}
use Rattle.krs_hold.proofs.{Places.{alter_other, at_some, put_other, without_other}, Times.{in_tail}}
use Rattle.std.proofs.lemmas.Grind.{common_steps}
use Rattle.krs_model.proofs.Sweep.HeldKeys.{in_head, in_rest}

-- a chain stays where its counts wait and name the next as before
pub chain_same :
    (es fs : Table Count) (first : Option ℕ) (ks : List ℕ) → ((q : ℕ) → is_in q ks ≡ true
    → (is_waiting (at fs q) ≡ is_waiting (at es q)) × (next_at (at fs q) ≡ next_at (at es q))) → IsChain es first ks
    → IsChain fs first ks
chain_same es fs first [] same h = h
chain_same es fs first (k ∷ ks) same h =
    let here = same k (in_head k ks) in
    let below : IsChain fs (next_at (at es k)) ks = chain_same es fs (next_at (at es k)) ks
    (λ q i. same q (in_tail q k ks i)) h.1.1.1 in
    (h.0, (here.0 ∙ h.1.0, (h.1.1.0, subst (λ (o : Option ℕ). IsChain fs o ks) (sym here.1) below)))

pub falls_true : (c : Count) → falls c ≡ true → (c.holders ≡ 1) × (c.waiting ≡ false)
falls_true c h = grind (arith, common_steps, true≢false, nat_tests)

pub falls_false : (c : Count) → falls c ≡ false → c.holders ≡ 1 → c.waiting ≡ true
falls_false c h one = grind (arith, common_steps, nat_tests, true≢false)

pub lowered_stays :
    (first : Option ℕ) (c : Count) → falls c ≡ false → lowered first c ≡ record c { holders = c.holders - 1 }
lowered_stays first c h = rw h refl

pub lowered_falls :
    (first : Option ℕ) (c : Count) → falls c ≡ true
    → lowered first c ≡ record { holders = 0; waiting = true; next = first }
lowered_falls first c h = rw h refl

due_stays : (c : Count) → falls c ≡ false → c.holders - 1 ≡ 0 → (c.holders ≡ 0 → c.waiting ≡ true) → c.waiting ≡ true
due_stays c f h z = ⊎_elim (λ e. z e) (λ n. falls_false c f (omega arith)) (cases_eq c.holders 0)

-- what does not wait is in no chain
out_of :
    (es : Table Count) (first : Option ℕ) (ks : List ℕ) (k : ℕ) → IsChain es first ks → is_waiting (at es k) ≡ false
    → is_in k ks ≡ false
out_of es first [] k h r = refl
out_of es first (x ∷ ks) k h r =
    grind (arith, common_steps, nat_tests, true≢false, out_of es (next_at (at es x)) ks k h.1.1.1 r)

-- a count that changes as to its holders alone leaves the chain as it is
altered :
    (es : Table Count) (first : Option ℕ) (k : ℕ) (f : Count → Count)
    → is_waiting (at (alter es k f) k) ≡ is_waiting (at es k) → next_at (at (alter es k f) k) ≡ next_at (at es k)
    → (IsSome (at (alter es k f) k) → holders_at (at (alter es k f) k) ≡ 0 → is_waiting (at (alter es k f) k) ≡ true)
    → IsChained es first → IsChained (alter es k f) first
altered es first k f waits nexts due h =
    let fs = alter es k f in
    let others : (q : ℕ) → (q ≡ k → ⊥) → at fs q ≡ at es q = λ q n. alter_other es k q f n in
    let stays : (q : ℕ) → (is_waiting (at fs q) ≡ is_waiting (at es q)) × (next_at (at fs q) ≡ next_at (at es q)) =
    λ q. ⊎_elim
    (λ s. subst (λ (z : ℕ). (is_waiting (at fs z) ≡ is_waiting (at es z)) × (next_at (at fs z) ≡ next_at (at es z)))
    (sym s) (waits, nexts))
    (λ n. (ap is_waiting (others q n), ap next_at (others q n)))
    (cases_eq q k) in
    record {
      chain = h.chain;
      linked = chain_same es fs first h.chain (λ q i. stays q) h.linked;
      whole = λ q w. h.whole q (sym (stays q).0 ∙ w);
      due = λ q there none. ⊎_elim
          (λ s. subst (λ (z : ℕ). is_waiting (at fs z) ≡ true) (sym s)
          (due (subst (λ (z : ℕ). IsSome (at fs z)) s there) (subst (λ (z : ℕ). holders_at (at fs z) ≡ 0) s none)))
          (λ n. (stays q).0 ∙ h.due q (subst IsSome (others q n) there) (sym (ap holders_at (others q n)) ∙ none))
          (cases_eq q k);
    }

-- one holder less, and not the last, or it waits already
staying :
    (es : Table Count) (first : Option ℕ) (k : ℕ) (c : Count) → at es k ≡ Some c → falls c ≡ false
    → IsChained es first → IsChained (alter es k (lowered first)) first
staying es first k c e f h = grind (arith, common_steps, at_some, lowered_stays, altered, due_stays)

-- a count of 0 that comes into the chain
pub pushed :
    (es fs : Table Count) (first : Option ℕ) (k : ℕ) → is_waiting (at es k) ≡ false
    → at fs k ≡ Some (record { holders = 0; waiting = true; next = first }) → ((q : ℕ) → (q ≡ k → ⊥)
    → at fs q ≡ at es q) → IsChained es first → IsChained fs (Some k)
pushed es fs first k rests mine others h =
    let out : is_in k h.chain ≡ false = out_of es first h.chain k h.linked rests in
    let apart : (q : ℕ) → is_in q h.chain ≡ true → q ≡ k
    → ⊥ = λ q i s. true≢false (sym i ∙ (ap (λ (z : ℕ). is_in z h.chain) s ∙ out)) in
    record {
      chain = k ∷ h.chain;
      linked = (
        refl,
        (
          ap is_waiting mine,
          (
            out,
            subst
                (λ (o : Option ℕ). IsChain fs o h.chain) (sym (ap next_at mine)) (chain_same es fs first h.chain
                (λ q i. (ap is_waiting (others q (apart q i)), ap next_at (others q (apart q i)))) h.linked),
          ),
        ),
      );
      whole = λ q w. ⊎_elim
          (λ s. subst (λ (z : ℕ). is_in z (k ∷ h.chain) ≡ true) (sym s) (in_head k h.chain))
          (λ n. in_tail q k h.chain (h.whole q (sym (ap is_waiting (others q n)) ∙ w)))
          (cases_eq q k);
      due = λ q there none. ⊎_elim
          (λ s. ap is_waiting (ap (at fs) s ∙ mine))
          (λ n. ap is_waiting (others q n)
          ∙ h.due q (subst IsSome (others q n) there) (sym (ap holders_at (others q n)) ∙ none))
          (cases_eq q k);
    }

-- the last holder less
falling :
    (es : Table Count) (first : Option ℕ) (k : ℕ) (c : Count) → at es k ≡ Some c → falls c ≡ true
    → IsChained es first → IsChained (alter es k (lowered first)) (Some k)
falling es first k c e f h = grind (arith, common_steps, pushed, falls_true, at_some, lowered_falls, alter_other)

-- a new count
-- a new count of one holder, which does not wait
pub held_chained :
    (es : Table Count) (first : Option ℕ) (k : ℕ) → at es k ≡ None → IsChained es first
    → IsChained (put es k (record { holders = 1; waiting = false; next = None })) first
held_chained es first k none h =
    grind (arith, common_steps, at_put_same, put_other, out_of, true≢false, chain_same, ⊎_elim, cases_eq)

pub made_chained :
    (es : Table Count) (first : Option ℕ) (k : ℕ) → at es k ≡ None → IsChained es first
    → IsChained (put es k (record { holders = 0; waiting = true; next = first })) (Some k)
made_chained es first k none h = grind (arith, common_steps, pushed, at_put_same, put_other)

raised_waits : (o : Option Count) → is_waiting (option_map raised o) ≡ is_waiting o
raised_waits None = refl
raised_waits (Some c) = refl

raised_next : (o : Option Count) → next_at (option_map raised o) ≡ next_at o
raised_next None = refl
raised_next (Some c) = refl

raised_some : (o : Option Count) → IsSome (option_map raised o) → holders_at (option_map raised o) ≡ 0 → ⊥
raised_some None s z = true≢false (sym s)
raised_some (Some c) s z = absurd (omega (arith, z))

-- one holder more
pub raised_chained :
    (es : Table Count) (first : Option ℕ) (k : ℕ) → IsChained es first → IsChained (alter es k raised) first
raised_chained es first k h =
    grind (arith, common_steps, option_map, at_alter_same, altered, raised_waits, raised_next, raised_some)

pub gone_chained :
    (es : Table Count) (first : Option ℕ) (k : ℕ) → IsChained es first
    → IsChained (alter es k (lowered first)) (cond (falls_at (at es k)) (Some k) first)
gone_chained es first k h = grind (arith, common_steps, alter_none, falling, staying)

pub gone_all_chained :
    (ks : List ℕ) (t : Chained) → IsChained t.counts t.first → IsChained (gone_all t ks).counts (gone_all t ks).first
gone_all_chained [] t h = h
gone_all_chained (k ∷ ks) t h = gone_all_chained ks (gone t k) (gone_chained t.counts t.first k h)

-- The first of a chain, taken out: each count of 0 waits, but for it.
pub record IsPopped (k : ℕ) (counts : Table Count) (first : Option ℕ) : Type 0 where
  pub chain : List ℕ
  pub linked : IsChain counts first chain
  pub out : is_in k chain ≡ false
  pub whole : (q : ℕ) → is_waiting (at counts q) ≡ true → is_in q chain ≡ true
  pub due : (q : ℕ) → (q ≡ k → ⊥) → IsSome (at counts q) → holders_at (at counts q) ≡ 0
      → is_waiting (at counts q) ≡ true

waiting_some : (o : Option Count) → is_waiting o ≡ true → (c : Count) × (o ≡ Some c)
waiting_some None h = absurd (true≢false (sym h))
waiting_some (Some c) h = (c, refl)

-- the first of the chain
pub first_waits : (es : Table Count) (k : ℕ) → IsChained es (Some k) → is_waiting (at es k) ≡ true
first_waits es k h =
    elim h.chain as (λ ks. IsChain es (Some k) ks → is_waiting (at es k) ≡ true) [
      | [] ↦ λ l. absurd (none-some k (sym l))
      | x ∷ ks ↦ λ l. subst (λ (z : ℕ). is_waiting (at es z) ≡ true) (sym (same_Some k x l.0)) l.1.0
    ] h.linked

popped :
    (es : Table Count) (k : ℕ) (ks : List ℕ) → IsChain es (Some k) ks → ((q : ℕ) → is_waiting (at es q) ≡ true
    → is_in q ks ≡ true) → ((q : ℕ) → IsSome (at es q) → holders_at (at es q) ≡ 0 → is_waiting (at es q) ≡ true)
    → IsPopped k (alter es k rested) (next_at (at es k))
popped es k [] l w d = absurd (none-some k (sym l))
popped es k (x ∷ ks) l w d =
    grind (
      arith,
      common_steps,
      same_Some,
      alter_other,
      true≢false,
      waiting_some,
      at_some,
      chain_same,
      ⊎_elim,
      in_rest,
      cases_eq,
    )

pub rest_popped :
    (es : Table Count) (k : ℕ) → IsChained es (Some k) → IsPopped k (alter es k rested) (next_at (at es k))
rest_popped es k h = popped es k h.chain h.linked h.whole h.due

-- it is held, and stays
pub kept_chained :
    (es : Table Count) (first : Option ℕ) (k : ℕ) → IsPopped k es first → (holders_at (at es k) ≡ 0 → ⊥)
    → IsChained es first
kept_chained es first k h held = grind (arith, common_steps, ⊎_elim, cases_eq)

-- it goes
pub dropped_chained :
    (es : Table Count) (first : Option ℕ) (k : ℕ) → IsPopped k es first → at (without es k) k ≡ None
    → IsChained (without es k) first
dropped_chained es first k h none =
    grind (arith, common_steps, without_other, true≢false, chain_same, ⊎_elim, cases_eq, is_some)

-- ---- what is left to do
weight_lowered : (first : Option ℕ) (c : Count) → weight (lowered first c) ≤ weight c
weight_lowered first c = grind (arith, common_steps, falls_true)

weight_gone :
    (es : Table Count) (k : ℕ) (first : Option ℕ) → total_weight (alter es k (lowered first)) ≤ total_weight es
weight_gone [] k first = omega arith
weight_gone (e ∷ es) k first = grind (arith, common_steps, nat_cmp, weight_lowered, weight_gone es k first)

pub weight_gone_all : (ks : List ℕ) (t : Chained) → total_weight (gone_all t ks).counts ≤ total_weight t.counts
weight_gone_all [] t = omega arith
weight_gone_all (k ∷ ks) t = grind (arith, common_steps, weight_gone, weight_gone_all ks (gone t k))

pub weight_rested :
    (es : Table Count) (k : ℕ) → is_waiting (at es k) ≡ true → total_weight (alter es k rested) < total_weight es
weight_rested [] k h = absurd (true≢false (sym h))
weight_rested (e ∷ es) k h =
    elim (is_at (nat_cmp k) e.0) as (λ b. is_waiting (cond b (Some e.1) (at es k)) ≡ true
    → total_weight (cond b ((e.0, rested e.1) ∷ es) (e ∷ alter es k rested)) < weight e.1 + total_weight es) [
      | true ↦ λ w. rw w (omega arith)
      | false ↦ λ w. let r = weight_rested es k w in omega (arith, r)
    ] h

pub weight_without : (es : Table Count) (k : ℕ) → total_weight (without es k) ≤ total_weight es
weight_without [] k = omega arith
weight_without (e ∷ es) k = grind (arith, common_steps, nat_cmp, weight_without es k)
