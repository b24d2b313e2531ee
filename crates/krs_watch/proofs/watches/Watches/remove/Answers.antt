use Rattle.std.proofs.Common.{None}
use Rattle.krs_watch.proofs.WatchesLemmas.{both_changed}
use Rattle.krs_watch.proofs.watches.Watches.remove.Goals as goal

pub invariant_of-self : goal.invariant_of-self
invariant_of-self c =
    let s = c.self.inside in
    both_changed s.by_key.entries c.remove-2.new.self.entries s.by_queue.keys c.remove.new.self.keys c.args.key
    c.args.number None (λ q. c.remove-2.ensures.updates.0 q) (λ q. c.remove.ensures.updates.0 q) c.self.invariant
