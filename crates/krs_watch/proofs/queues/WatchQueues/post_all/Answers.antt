use Rattle.std.proofs.Common.{◌∙◌, ap, List, map}
use Rattle.krs_model.specs.Notes.Posting.{note_for, Post, watches_at}
use Rattle.krs_model.specs.{Queues.{Queues, Watch}, State.Queue, Table.Table}
use Rattle.krs_watch.specs.Offers.{offer_all}
use Rattle.krs_watch.proofs.{OffersLemmas.offers_are_posts, QueuedLemmas.queued_offer}
use Rattle.krs_watch.proofs.queues.WatchQueues.post_all.Goals as goal

pub returns : goal.returns
returns c =
    let s = c.self.inside in
    let made : Table Queue → Queues =
    λ zs. record { queues = zs; watches = s.watches; next_queue = s.next_queue } in
    let told : List Watch → List Post = λ ws.
    map (note_for (record { event = c.args.event; key = c.number.result; aux = c.args.aux }))
    (watches_at c.number.result ws) in
    rw (← c.self.view_is, ← c.number.ensures) (ap made (c.post_note.ensures
    ∙ (ap (λ (ws : List Watch). offer_all (told ws) s.queues.entries) c.all.ensures
    ∙ offers_are_posts (told s.watches) s.queues.entries)))

pub invariant_of-self : goal.invariant_of-self
invariant_of-self c =
    let s = c.self.inside in
    let told = map (note_for (record { event = c.args.event; key = c.number.result; aux = c.args.aux }))
    (watches_at c.number.result c.all.result.now.entries) in
    queued_offer told s.queues.entries c.post_note.new.queues.entries s.watches c.post_note.ensures c.self.invariant
