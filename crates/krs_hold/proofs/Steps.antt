-- One look: the first of the chain stays, or goes with its links.
use Rattle.std.proofs.Common.{[], ◌<◌, ◌∙◌, ◌≡◌, ◌≤◌, ap, arith, List, None, Option, option_map, Some, subst, sym, ℕ}
use Rattle.krs_model.specs.{Sweep.links_of_key, Table.{alter, at, Table, without}}
use Rattle.krs_model.proofs.Tables.Changes.{at_map, without_map}
use Rattle.krs_keys.specs.{Keys.{seen, shown}, declared.key.Key.Key}
use Rattle.krs_hold.specs.Chain.{Chained, gone_all, holders_at, IsChained, next_at, numbers_of, rested, Spares}
use Rattle.krs_hold.specs.{Chain.total_weight, Tally.AreExact, declared.counts.Count.Count}
use Rattle.krs_hold.proofs.Anchoring.{spares_drop}
use Rattle.krs_hold.proofs.Chains.{dropped_chained, first_waits, gone_all_chained, kept_chained, rest_popped}
use Rattle.krs_hold.proofs.{Chains.{weight_gone_all, weight_rested, weight_without}, Exact.counted_from}
use Rattle.krs_hold.proofs.Exact.{dropped_counted, gone_all_counted, IsCounted, rested_counted, tallied_from}
use Rattle.krs_model.specs.State as model
use Rattle.std.proofs.lemmas.Grind.{common_steps}

-- what `rest` leaves: the first of the chain is taken out of it
pub record IsRested (es : Table Count) (k : ℕ) (fs : Table Count) (next : Option ℕ) : Type 0 where
  pub chained : IsChained es (Some k)
  pub counts : fs ≡ alter es k rested
  pub after : next ≡ next_at (at es k)

pub rest_weighs :
    (es : Table Count) (k : ℕ) (fs : Table Count) (next : Option ℕ) → IsRested es k fs next
    → total_weight fs < total_weight es
rest_weighs es k fs next r = grind (arith, common_steps, weight_rested, first_waits)

pub kept_chain :
    (es : Table Count) (k : ℕ) (fs : Table Count) (next : Option ℕ) → IsRested es k fs next
    → 0 < holders_at (at fs k) → IsChained fs next
kept_chain es k fs next r held =
    subst (λ (zs : Table Count). IsChained zs next) (sym r.counts)
    (subst (λ (o : Option ℕ). IsChained (alter es k rested) o) (sym r.after)
    (kept_chained (alter es k rested) (next_at (at es k)) k (rest_popped es k r.chained)
    (λ z.
    let none : holders_at (at fs k) ≡ 0 = ap (λ (zs : Table Count). holders_at (at zs k)) r.counts ∙ z in
    absurd (omega (arith, held, none)))))

pub kept_exact :
    (keys : Table Key) (attached : List ℕ) (es : Table Count) (k : ℕ) (fs : Table Count) (next : Option ℕ)
    → IsRested es k fs next → AreExact keys (numbers_of es) attached → AreExact keys (numbers_of fs) attached
kept_exact keys attached es k fs next r h = grind (arith, common_steps, tallied_from, rested_counted, counted_from)

-- what `drop_key` leaves of the counts
pub record IsLess (keys : Table Key) (k : ℕ) (fs : Table Count) (next : Option ℕ) (u : Chained) : Type 0 where
  pub no_count : at (without fs k) k ≡ None
  pub counts : gone_all (record { counts = without fs k; first = next }) (links_of_key (at (shown keys) k)) ≡ u

pub dropped_chain :
    (keys : Table Key) (es : Table Count) (k : ℕ) (fs : Table Count) (next : Option ℕ) (u : Chained)
    → IsRested es k fs next → IsLess keys k fs next u → IsChained u.counts u.first
dropped_chain keys es k fs next u r l = grind (arith, common_steps, dropped_chained, rest_popped, gone_all_chained)

pub dropped_weighs :
    (keys : Table Key) (es : Table Count) (k : ℕ) (fs : Table Count) (next : Option ℕ) (u : Chained)
    → IsRested es k fs next → IsLess keys k fs next u → total_weight u.counts < total_weight es
dropped_weighs keys es k fs next u r l =
    let links : total_weight u.counts ≤ total_weight (without fs k) =
    subst (λ (v : Chained). total_weight v.counts ≤ total_weight (without fs k)) l.counts
    (weight_gone_all (links_of_key (at (shown keys) k)) (record { counts = without fs k; first = next })) in
    omega (arith, links, weight_without fs k, rest_weighs es k fs next r)

shown_gone : (old new : Table Key) (k : ℕ) → new ≡ without old k → shown new ≡ without (shown old) k
shown_gone old new k e = ap shown e ∙ without_map seen old k

none_shown : (keys : Table Key) (k : ℕ) → at keys k ≡ None → at (shown keys) k ≡ None
none_shown keys k h = at_map seen keys k ∙ ap (option_map seen) h

pub dropped_exact :
    (old new : Table Key) (attached : List ℕ) (k : ℕ) (fs : Table Count) (next : Option ℕ) (u : Chained)
    → new ≡ without old k → at new k ≡ None → IsLess old k fs next u → holders_at (at fs k) ≡ 0
    → AreExact old (numbers_of fs) attached → AreExact new (numbers_of u.counts) attached
dropped_exact old new attached k fs next u e gone l empty h =
    let same = shown_gone old new k e in
    let no_key : at (without (shown old) k) k ≡ None =
    ap (λ (zs : Table model.Key). at zs k) (sym same) ∙ none_shown new k gone in
    let start : IsCounted (without (shown old) k) attached (links_of_key (at (shown old) k)) (without fs k) =
    dropped_counted (shown old) attached fs k empty no_key l.no_count (counted_from (shown old) attached [] fs h) in
    let rest : IsCounted (without (shown old) k) attached [] u.counts =
    subst (λ (v : Chained). IsCounted (without (shown old) k) attached [] v.counts) l.counts
    (gone_all_counted (without (shown old) k) attached (links_of_key (at (shown old) k))
    (record { counts = without fs k; first = next }) start) in
    tallied_from (shown new) attached [] u.counts
    (subst (λ (zs : Table model.Key). IsCounted zs attached [] u.counts) (sym same) rest)

pub dropped_spares :
    (old new : Table Key) (attached : List ℕ) (k : ℕ) (fs : Table Count) → new ≡ without old k → at new k ≡ None
    → holders_at (at fs k) ≡ 0 → AreExact old (numbers_of fs) attached → Spares attached old new
dropped_spares old new attached k fs e gone empty h =
    subst (λ (zs : Table Key). Spares attached old zs) (sym e)
    (spares_drop attached old fs k (ap (λ (zs : Table Key). at zs k) (sym e) ∙ gone)
    (counted_from (shown old) attached [] fs h) empty)
