use Rattle.std.proofs.Common.{rules}
use Rattle.krs_model.specs.Asks.Watching.{filtered, with_filter}
use Rattle.krs_watch.proofs.QueuedLemmas.{queued_alter}
use Rattle.krs_watch.proofs.queues.WatchQueues.set_filter.Goals as goal

pub returns : goal.returns
unfolding filtered
returns c = search rules

pub invariant_of-self : goal.invariant_of-self
invariant_of-self c =
    let s = c.self.inside in
    queued_alter s.queues.entries c.set_filter_at.new.queues.entries s.watches c.args.number
    (with_filter c.in_ok-filter.filter) c.set_filter_at.ensures c.self.invariant
