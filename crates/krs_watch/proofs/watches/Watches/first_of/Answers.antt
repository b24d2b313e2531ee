use Rattle.std.proofs.Common.{[], ◌==◌, ◌∙◌, ◌≡◌, filter, List, not, subst, sym}
use Rattle.krs_model.specs.Queues.{Watch}
use Rattle.krs_watch.proofs.WatchesLemmas.{from_first, none_ends, queue_has_none}
use Rattle.krs_watch.proofs.watches.Watches.first_of.Goals as goal

pub returns-in_default-clause-none : goal.returns-in_default-clause-none
returns-in_default-clause-none c =
    let s = c.self.inside in
    let n = c.args.number in
    let nothing : c.range.result ≡ [] = c.in_default.ensures.steps.0 in
    subst (λ (ws : List Watch). filter (λ w. not (w.0.1 == n)) ws ≡ ws) c.self.view_is
    (none_ends s.by_key.entries n (λ key. sym (c.self.invariant key n)
    ∙ (c.range.ensures.in_range tt).5 nothing (n, key) (from_first n key, tt)))

pub returns-then-queue-number-clause-none : goal.returns-then-queue-number-clause-none
returns-then-queue-number-clause-none c =
    let s = c.self.inside in
    let n = c.args.number in
    subst (λ (ws : List Watch). filter (λ w. not (w.0.1 == n)) ws ≡ ws) c.self.view_is
    (none_ends s.by_key.entries n (λ key. sym (c.self.invariant key n)
    ∙ queue_has_none s.by_queue c.range.result c.in-Some.field-0.now _ n key (c.range.ensures.in_range tt)
    c.in-Some.ensures.steps c.if-queue-number.true))
