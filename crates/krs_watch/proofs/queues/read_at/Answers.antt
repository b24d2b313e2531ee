use Rattle.std.proofs.Common.{sym}
use Rattle.krs_watch.proofs.ChangesLemmas.{reads_at}
use Rattle.krs_watch.proofs.queues.read_at.Goals as goal

pub returns-in-Some : goal.returns-in-Some
returns-in-Some c =
    reads_at c.args.number c.args.room c.args.queues.now.entries c.in-Some.queue.now c.read.result c.read.new.self _
    (sym c.in-Some.ensures.value) c.read.ensures (c.get_mut.follows.holds c.read.new.self).0
