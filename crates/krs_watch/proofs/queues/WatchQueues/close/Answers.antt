use Rattle.std.proofs.Common.{rules}
use Rattle.krs_model.specs.Asks.Watching.{closed}
use Rattle.krs_watch.proofs.QueuedLemmas.{queued_closed}
use Rattle.krs_watch.proofs.queues.WatchQueues.close.Goals as goal

pub returns : goal.returns
unfolding closed
returns c = search rules

pub invariant_of-self : goal.invariant_of-self
invariant_of-self c =
    let s = c.self.inside in
    queued_closed s.queues.entries c.remove.new.self.entries c.args.number s.watches c.end_all_of.new.self
    c.remove.ensures.entries c.end_all_of.ensures c.self.invariant
