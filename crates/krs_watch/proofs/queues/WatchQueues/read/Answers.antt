use Rattle.krs_watch.proofs.QueuedLemmas.{queued_read}
use Rattle.krs_watch.proofs.queues.WatchQueues.read.Goals as goal

pub invariant_of-self : goal.invariant_of-self
invariant_of-self c =
    let s = c.self.inside in
    queued_read c.args.number c.args.room c.args.client s.queues.entries c.read_at.new.queues.entries c.read_at.result
    s.watches c.in_ok-check_own.ensures c.read_at.ensures c.self.invariant
