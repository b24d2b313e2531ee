use Rattle.std.proofs.Common.{rules}
use Rattle.krs_model.specs.Asks.Watching.{watched}
use Rattle.krs_watch.proofs.QueuedLemmas.{owned_there, queued_with}
use Rattle.krs_watch.proofs.queues.WatchQueues.watch.Goals as goal

pub returns : goal.returns
unfolding watched
returns c = search rules

pub invariant_of-self-2 : goal.invariant_of-self-2
invariant_of-self-2 c =
    let s = c.self.inside in
    queued_with s.queues.entries s.watches c.insert.new.self c.number-2.result c.args.number c.args.id
    (owned_there s.queues.entries c.args.client c.args.number c.in_ok-check_own.ensures) c.in_ok-insert.ensures.ok
    c.self.invariant
