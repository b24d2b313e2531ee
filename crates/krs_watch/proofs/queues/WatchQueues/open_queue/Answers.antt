use Rattle.std.proofs.Common.{rules}
use Rattle.krs_model.specs.Asks.Watching.{opened}
use Rattle.krs_watch.proofs.QueuedLemmas.{queued_put}
use Rattle.krs_watch.proofs.queues.WatchQueues.open_queue.Goals as goal

pub returns : goal.returns
unfolding opened
returns c = search rules

pub invariant_of-self-2 : goal.invariant_of-self-2
invariant_of-self-2 c =
    let s = c.self.inside in
    queued_put s.queues.entries c.insert.new.self.entries s.watches _ _ c.in_ok-insert.ensures.entries
    c.self.invariant
