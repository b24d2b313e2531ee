use Rattle.std.proofs.Common.{◌∙◌, ap, List}
use Rattle.krs_model.specs.{Notes.Posting.watches_at, Queues.Watch}
use Rattle.krs_watch.proofs.PlacesLemmas.{watched_alike}
use Rattle.krs_watch.proofs.queues.is_watched.Goals as goal

pub loop-place-init : goal.loop-place-init
loop-place-init c =
    watched_alike c.args.key c.into_iter-place-iterator.result c.args.watches.now.entries
    (ap (λ (ws : List Watch). watches_at c.args.key ws) c.into_iter-place-iterator.ensures.into_iter_gives
    ∙ c.around-place-items.ensures)
