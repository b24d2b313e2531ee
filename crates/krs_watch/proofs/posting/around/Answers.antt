use Rattle.std.proofs.Common.{◌+◌, ◌∙◌, ◌≡◌, ap, filter, List, subst, sym, ℕ}
use Rattle.std.specs.{BTreeMap.Range.range_contains, declared.ops.Bound.TheVariants.{Excluded, Included}}
use Rattle.krs_model.specs.{Notes.Posting.watches_at, Queues.{place_cmp, Watch}}
use Rattle.krs_watch.proofs.PlacesLemmas.{between_keys, from_key}
use Rattle.krs_watch.proofs.posting.around.Goals as goal

pub returns-in-Some : goal.returns-in-Some
returns-in-Some c =
    let key = c.args.key in
    let watches = c.args.watches.now.entries in
    let next : c.in-Some.next ≡ key + 1 = c.in-Some.ensures.1 in
    ap (λ (ws : List Watch). watches_at key ws) (c.range.ensures.between tt)
    ∙ subst (λ (n : ℕ). watches_at key (filter (λ w. range_contains place_cmp (Included (key, 0)) (Excluded (n, 0))
    w.0) watches) ≡ watches_at key watches) (sym next) (between_keys key watches)

pub returns-in-None : goal.returns-in-None
returns-in-None c =
    ap (λ (ws : List Watch). watches_at c.args.key ws) (c.range-in-None.ensures.between tt)
    ∙ from_key c.args.key c.args.watches.now.entries
