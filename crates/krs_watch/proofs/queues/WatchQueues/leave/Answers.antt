use Rattle.std.proofs.Common.{◌∙◌, ap, List}
use Rattle.krs_model.specs.{Queues.{Queues, queues_without, Watch}, State.Queue, Table.Table}
use Rattle.krs_watch.proofs.QueuedLemmas.{left_are, queued_left}
use Rattle.krs_watch.proofs.queues.WatchQueues.leave.Goals as goal

pub invariant_of-self : goal.invariant_of-self
invariant_of-self c =
    let s = c.self.inside in
    let es = s.queues.entries in
    queued_left s.watches c.end_watches_of.new.watches (queues_without c.args.client es)
    c.drop_queues.new.queues.entries c.drop_queues.ensures.queues (c.end_watches_of.ensures
    ∙ left_are c.args.client es s.watches c.drop_queues.ensures.rises c.self.invariant)

pub returns : goal.returns
returns c =
    let s = c.self.inside in
    let es = s.queues.entries in
    let made : Table Queue → List Watch → Queues =
    λ zs ws. record { queues = zs; watches = ws; next_queue = s.next_queue } in
    rw (← c.self.view_is) (
    ap (λ (zs : Table Queue). made zs c.end_watches_of.new.watches) c.drop_queues.ensures.queues
    ∙ ap (λ (ws : List Watch). made (queues_without c.args.client es) ws) (c.end_watches_of.ensures
    ∙ left_are c.args.client es s.watches c.drop_queues.ensures.rises c.self.invariant)
    )
