use Rattle.std.proofs.Common.{◌∙◌, ap, filter, not, sym}
use Rattle.krs_model.specs.{State.Queue, Table.Table}
use Rattle.krs_watch.specs.Watched.{owns}
use Rattle.krs_watch.proofs.QueuedLemmas.{all_stay, one_of_them}
use Rattle.krs_watch.proofs.queues.end_watches_of.Goals as goal

pub loop-number-preserved-then-is_of : goal.loop-number-preserved-then-is_of
loop-number-preserved-then-is_of c =
    let client = c.args.client in
    let left = c.next.new.self in
    ap (filter (λ w. not (owns client w.0.1 left))) c.end_all_of.ensures
    ∙ (one_of_them client (c.in-Some.number.now, c.in-Some.queue.now) left c.loop-number.watches
    (sym c.is_of.ensures ∙ c.if-is_of.true)
    ∙ (ap (λ (es : Table Queue). filter (λ w. not (owns client w.0.1 es)) c.loop-number.watches)
    (sym c.in-Some.ensures.steps)
    ∙ c.loop-number.invariant))

pub returns : goal.returns
returns c =
    let client = c.args.client in
    sym (all_stay client c.loop-number.watches)
    ∙ (ap (λ (es : Table Queue). filter (λ w. not (owns client w.0.1 es)) c.loop-number.watches)
    (sym c.in-None.ensures.steps.0)
    ∙ c.loop-number.invariant)
