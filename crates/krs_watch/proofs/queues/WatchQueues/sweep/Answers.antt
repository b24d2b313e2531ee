use Rattle.std.proofs.Common.{◌∙◌, ap, List, map}
use Rattle.krs_model.specs.{Notes.Posting.{post_all, removal_for}, Queues.{Queues, Watch}, State.Queue, Table.Table}
use Rattle.krs_watch.specs.Watched.{gone_watches}
use Rattle.krs_watch.proofs.QueuedLemmas.{queued_kept, queued_post}
use Rattle.krs_watch.proofs.queues.WatchQueues.sweep.Goals as goal

pub returns : goal.returns
returns g c =
    let s = c.self.inside in
    let has = g.K.KeySet.has c.args.keys.now in
    let made : Table Queue → List Watch → Queues =
    λ zs ws. record { queues = zs; watches = ws; next_queue = s.next_queue } in
    let ended = post_all (map removal_for (gone_watches has s.watches)) s.queues.entries in
    rw (← c.self.view_is) (
    ap (λ (zs : Table Queue). made zs c.end_dropped.new.watches) c.end_dropped.ensures.queues
    ∙ ap (λ (ws : List Watch). made ended ws) c.end_dropped.ensures.watches
    )

pub invariant_of-self : goal.invariant_of-self
invariant_of-self g c =
    let s = c.self.inside in
    let has = g.K.KeySet.has c.args.keys.now in
    let queues = c.end_dropped.new.queues.entries in
    queued_kept queues (λ w. has w.0.0) s.watches c.end_dropped.new.watches c.end_dropped.ensures.watches
    (queued_post (map removal_for (gone_watches has s.watches)) s.queues.entries queues s.watches
    c.end_dropped.ensures.queues c.self.invariant)
