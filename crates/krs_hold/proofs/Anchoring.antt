-- From exact counts to a closed choice.
use Rattle.std.proofs.Common.{[], ⊎_elim, ◌&&◌, ◌++◌, ◌+◌, ◌<◌, ◌==◌, ◌∙◌, ◌∷◌, ◌≡◌, ap, arith, Bool, cond, false}
use Rattle.std.proofs.Common.{filter, inl, inr, IsSome, List, nat_cmp, None, not, Option, refl, Some, subst, sym}
use Rattle.std.proofs.Common.{true, true≢false, zero, ℕ}
use Rattle.std.specs.{BTreeMap.is_at, Cmp.{ranked, unsigned_tied}, List.AllByRecursion}
use Rattle.std.specs.{List.Sorted.IsStrictlySortedBy, Map.keys_of, declared.cmp.Ordering.TheVariants.Less}
use Rattle.std.proofs.lemmas.{Bool.{cases_eq, Decides.nat_tests}, Map.Keys.{sorted_head, sorted_tail}, Option.none-some}
use Rattle.krs_model.specs.{Anchored.IsAnchored, Levels.is_in, Possession.links_of_content}
use Rattle.krs_model.specs.{Reach.{IsAcyclic, links_of_key_at}, Sweep.links_of_key, Table.{at, Table, without}}
use Rattle.krs_model.proofs.Reach.Levels.{same_is}
use Rattle.krs_model.proofs.{Sweep.HeldKeys.closed_held, Tables.Changes.{at_kept, filter_map_keys, is_at_same, same_at}}
use Rattle.krs_keys.specs.{Kept.{KeepsAnchored, Sweeps}, Keys.{seen, shown}, declared.key.Key.Key}
use Rattle.krs_keys.proofs.TableLemmas.{keys_map}
use Rattle.krs_hold.specs.Chain.{holders_at, IsChain, IsChained, Spares}
use Rattle.krs_hold.specs.{Tally.{all_links, times}, declared.counts.Count.Count}
use Rattle.krs_hold.proofs.{Exact.IsCounted, Times.{in-times, times-append, times-in}}
use Rattle.krs_model.specs.State as model
use Rattle.std.proofs.lemmas.Grind.{common_steps}
use Rattle.krs_types.proofs.Names.{and_left, and_right}
use Rattle.krs_model.proofs.Sweep.HeldKeys.{other_is}

-- ---- what is left of a table
filter_all : {X : Type 0} (xs : List X) → xs ≡ filter (λ x. true) xs
filter_all [] = refl
filter_all (x ∷ xs) = ap (λ ys. x ∷ ys) (filter_all xs)

none_filter : {X : Type 0} (es : Table X) (k : ℕ) → at es k ≡ None → es ≡ filter (λ e. not (e.0 == k)) es
none_filter [] k h = refl
none_filter (e ∷ es) k h =
    elim (is_at (nat_cmp k) e.0) as (λ b. is_at (nat_cmp k) e.0 ≡ b → cond b (Some e.1) (at es k) ≡ None
    → e ∷ es ≡ cond (not (e.0 == k)) (e ∷ filter (λ d. not (d.0 == k)) es) (filter (λ d. not (d.0 == k)) es)) [
      | true ↦ λ t g. absurd (none-some e.1 (sym g))
      | false ↦ λ t g.
          let no : (e.0 == k) ≡ false =
          other_is e.0 k (λ s. true≢false (sym (is_at_same k) ∙ (ap (is_at (nat_cmp k)) (sym s) ∙ t))) in
          rw no (ap (λ zs. e ∷ zs) (none_filter es k g))
    ] refl h

without_filter :
    {X : Type 0} (es : Table X) (k : ℕ) → at (without es k) k ≡ None
    → without es k ≡ filter (λ e. not (e.0 == k)) es
without_filter [] k h = refl
without_filter (e ∷ es) k h =
    elim (is_at (nat_cmp k) e.0) as (λ b. is_at (nat_cmp k) e.0 ≡ b → at (cond b es (e ∷ without es k)) k ≡ None
    → cond b es (e ∷ without es k)
    ≡ cond (not (e.0 == k)) (e ∷ filter (λ d. not (d.0 == k)) es) (filter (λ d. not (d.0 == k)) es)) [
      | true ↦ λ t g.
          let yes : (e.0 == k) ≡ true = same_is e.0 k (sym (same_at k e.0 t)) in rw yes (none_filter es k g)
      | false ↦ λ t g.
          let no : (e.0 == k) ≡ false =
          other_is e.0 k (λ s. true≢false (sym (is_at_same k) ∙ (ap (is_at (nat_cmp k)) (sym s) ∙ t))) in
          rw no (ap (λ zs. e ∷ zs)
          (without_filter es k (sym (ap (λ b. cond b (Some e.1) (at (without es k) k)) t) ∙ g)))
    ] refl h

filter_filter :
    {X : Type 0} (p q : ℕ → Bool) (es : Table X)
    → filter (λ e. q e.0) (filter (λ e. p e.0) es) ≡ filter (λ e. p e.0 && q e.0) es
filter_filter p q [] = refl
filter_filter p q (e ∷ es) = grind (arith, common_steps, filter, cond, filter_filter p q es)

both_true : (b c : Bool) → b ≡ true → c ≡ true → (b && c) ≡ true
both_true true c h g = g
both_true false c h g = h

-- ---- no key that goes is anchored
pub spares_all : (attached : List ℕ) (old : Table Key) → Spares attached old old
spares_all attached old = record { kept = λ k. true; each = λ k there anchor. refl; keys = filter_all old }

shown_kept :
    (kept : ℕ → Bool) (old new : Table Key) → new ≡ filter (λ e. kept e.0) old → (k : ℕ)
    → at (shown new) k ≡ cond (kept k) (at (shown old) k) None
shown_kept kept old new e k = grind (arith, common_steps, filter_map_keys, at_kept)

there_kept :
    (kept : ℕ → Bool) (old new : Table Key) → new ≡ filter (λ e. kept e.0) old → (k : ℕ) → kept k ≡ true
    → at (shown new) k ≡ at (shown old) k
there_kept kept old new e k keep =
    shown_kept kept old new e k ∙ ap (λ b. cond b (at (shown old) k) None) keep

anchored_less :
    (keys : Table model.Key) (attached : List ℕ) (p q : ℕ → Bool) (k : ℕ)
    → IsAnchored keys attached (λ j. p j && q j) k
    → IsAnchored keys attached p k
anchored_less keys attached p q k h = grind (arith, common_steps, ⊎_elim, inl, inr, and_left)

-- one after the other
pub spares_on :
    (attached : List ℕ) (old mid new : Table Key) → Spares attached old mid → Spares attached mid new
    → Spares attached old new
spares_on attached old mid new a b = record {
  kept = λ k. a.kept k && b.kept k;
  each = λ k there anchor.
      let keep : a.kept k ≡ true =
      a.each k there (anchored_less (shown old) attached a.kept b.kept k anchor) in
      let same : at (shown mid) k ≡ at (shown old) k = there_kept a.kept old mid a.keys k keep in
      let on : IsAnchored (shown mid) attached b.kept k = ⊎_elim
      (λ (i : is_in k attached ≡ true). inl i)
      (λ (l : (j : ℕ) × ((a.kept j && b.kept j) ≡ true) × (is_in k (links_of_key_at (shown old) j) ≡ true)).
      let link : at (shown mid) l.0 ≡ at (shown old) l.0 =
      there_kept a.kept old mid a.keys l.0 (and_left (a.kept l.0) (b.kept l.0) l.1) in
      inr (
        l.0,
        and_right (a.kept l.0) (b.kept l.0) l.1,
        subst (λ (o : Option model.Key). is_in k (links_of_key o) ≡ true) (sym link) l.2,
      )) anchor in
      both_true (a.kept k) (b.kept k) keep (b.each k (subst IsSome (sym same) there) on);
  keys = b.keys ∙ (ap (filter (λ e. b.kept e.0)) a.keys ∙ filter_filter a.kept b.kept old);
}

-- ---- what a count says
link_counts :
    (es : Table model.Key) (j k : ℕ) → is_in k (links_of_key_at es j) ≡ true → 0 < times k (all_links es)
link_counts [] j k h = absurd (true≢false (sym h))
link_counts (e ∷ es) j k h =
    let both = times-append k (links_of_content e.1.content) (all_links es) in
    elim (is_at (nat_cmp j) e.0) as (λ b. is_in k (links_of_key (cond b (Some e.1) (at es j))) ≡ true
    → 0 < times k (links_of_content e.1.content ++ all_links es)) [
      | true ↦ λ g. let r = in-times k (links_of_content e.1.content) g in omega (arith, both, r)
      | false ↦ λ g. let r = link_counts es j k g in omega (arith, both, r)
    ] h

-- nothing anchors a key whose count is 0
not_anchored :
    (keys : Table model.Key) (attached : List ℕ) (es : Table Count) (kept : ℕ → Bool) (k : ℕ)
    → IsCounted keys attached [] es → holders_at (at es k) ≡ 0 → IsAnchored keys attached kept k → ⊥
not_anchored keys attached es kept k h empty anchor = grind (arith, common_steps, ⊎_elim, in-times, link_counts)

other_than : (k q : ℕ) → (q ≡ k → ⊥) → not (q == k) ≡ true
other_than k q n = ap not (other_is q k n)

-- so it may go
pub spares_drop :
    (attached : List ℕ) (old : Table Key) (es : Table Count) (k : ℕ) → at (without old k) k ≡ None
    → IsCounted (shown old) attached [] es → holders_at (at es k) ≡ 0 → Spares attached old (without old k)
spares_drop attached old es k none h empty = record {
  kept = λ q. not (q == k);
  each = λ q there anchor. ⊎_elim
      (λ (e : q ≡ k). absurd (not_anchored (shown old) attached es (λ j. not (j == k)) k h empty
      (subst (λ (z : ℕ). IsAnchored (shown old) attached (λ j. not (j == k)) z) e anchor)))
      (λ (n : q ≡ k → ⊥). other_than k q n) (cases_eq q k);
  keys = without_filter old k none;
}

-- ---- what a count of more says
-- each entry is what a look-up finds
abbrev Own : Table model.Key → Table model.Key → Type 0
Own all [] = Unit {0}
Own all (e ∷ es) = (at all e.0 ≡ Some e.1) × Own all es

apart : (x y : ℕ) → nat_cmp x y ≡ Less → is_at (nat_cmp y) x ≡ false
apart x y h = let lt : x < y = ranked x y Less (sym h) in grind (arith, nat_tests, unsigned_tied y x)

own_cons :
    (e : ℕ × model.Key) (all es : Table model.Key) → AllByRecursion (λ y. nat_cmp e.0 y ≡ Less) (keys_of es)
    → Own all es → Own (e ∷ all) es
own_cons e all [] h o = tt
own_cons e all (f ∷ es) h o = (rw (apart e.0 f.0 h.0) o.0, own_cons e all es h.1 o.1)

own_self : (es : Table model.Key) → IsStrictlySortedBy nat_cmp (keys_of es) → Own es es
own_self [] s = tt
own_self (e ∷ es) s = (
  rw (is_at_same e.0) refl,
  own_cons e es es (sorted_head nat_cmp e.0 (keys_of es) s) (own_self es (sorted_tail nat_cmp e.0 (keys_of es) s)),
)

more_times : (k : ℕ) (xs : List ℕ) (n : ℕ) → is_in k xs ≡ false → 0 < times k xs + n → 0 < n
more_times k xs n out h = grind (arith, common_steps, true≢false, times-in)

count_links :
    (all es : Table model.Key) (k : ℕ) → Own all es → 0 < times k (all_links es)
    → (j : ℕ) × (is_in k (links_of_key_at all j) ≡ true)
count_links all [] k o h = absurd (omega (arith, h))
count_links all (e ∷ es) k o h =
    let both = times-append k (links_of_content e.1.content) (all_links es) in
    elim (is_in k (links_of_content e.1.content)) as (λ b. is_in k (links_of_content e.1.content) ≡ b
    → (j : ℕ) × (is_in k (links_of_key_at all j) ≡ true)) [
      | true ↦ λ t. (e.0, rw o.0 t)
      | false ↦ λ t.
          count_links all es k o.1
          (more_times k (links_of_content e.1.content) (times k (all_links es)) t (omega (arith, both, h)))
    ] refl

chain_empty : (es : Table Count) (ks : List ℕ) (k : ℕ) → IsChain es None ks → is_in k ks ≡ true → ⊥
chain_empty es [] k h i = true≢false (sym i)
chain_empty es (x ∷ ks) k h i = none-some x h.0

-- where none waits, each count is more than 0
some_hold :
    (keys : Table model.Key) (attached : List ℕ) (es : Table Count) (k : ℕ) → IsChained es None
    → IsCounted keys attached [] es → IsSome (at keys k) → 0 < holders_at (at es k)
some_hold keys attached es k chained h there = grind (arith, common_steps, zero, chain_empty)

keeping_there : (b : Bool) (o : Option model.Key) → IsSome (cond b o None) → b ≡ true
keeping_there true o h = refl
keeping_there false o h = absurd (true≢false (sym h))

linking_is_there : (k : ℕ) (o : Option model.Key) → is_in k (links_of_key o) ≡ true → IsSome o
linking_is_there k None h = absurd (true≢false (sym h))
linking_is_there k (Some key) h = refl

-- something that stays anchors it
anchored_by :
    (attached : List ℕ) (old new : Table Key) (es : Table Count) (kept : ℕ → Bool) (k : ℕ)
    → new ≡ filter (λ e. kept e.0) old → IsStrictlySortedBy nat_cmp (keys_of new)
    → IsCounted (shown new) attached [] es → 0 < holders_at (at es k) → IsAnchored (shown old) attached kept k
anchored_by attached old new es kept k e sorted h some =
    let sum : holders_at (at es k) ≡ 0 + (times k attached + times k (all_links (shown new))) = h.exact k in
    let own : Own (shown new) (shown new) =
    own_self (shown new) (subst (IsStrictlySortedBy nat_cmp) (sym (keys_map seen new)) sorted) in
    elim (is_in k attached) as (λ b. is_in k attached ≡ b → IsAnchored (shown old) attached kept k) [
      | true ↦ λ t. inl t
      | false ↦ λ t.
          let l = count_links (shown new) (shown new) k own
          (more_times k attached (times k (all_links (shown new))) t (omega (arith, sum, some))) in
          let keep : kept l.0 ≡ true = keeping_there (kept l.0) (at (shown old) l.0)
          (subst IsSome (shown_kept kept old new e l.0) (linking_is_there k (at (shown new) l.0) l.1)) in
          inr (
            l.0,
            keep,
            subst (λ (o : Option model.Key). is_in k (links_of_key o) ≡ true)
                (there_kept kept old new e l.0 keep) l.1,
          )
    ] refl

-- at the end of the cascade
pub keeps_anchored :
    (attached : List ℕ) (old new : Table Key) (es : Table Count) → IsStrictlySortedBy nat_cmp (keys_of new)
    → IsChained es None → IsCounted (shown new) attached [] es → Spares attached old new
    → KeepsAnchored attached old new
keeps_anchored attached old new es sorted chained h spared =
    grind (arith, common_steps, there_kept, anchored_by, some_hold)

-- in an acyclic table just the held keys stay
pub anchored_sweeps :
    (attached : List ℕ) (old new : Table Key) → IsAcyclic (links_of_key_at (shown old)) → KeepsAnchored attached old new
    → Sweeps attached old new
anchored_sweeps attached old new acyclic k = grind (arith, common_steps, closed_held)
