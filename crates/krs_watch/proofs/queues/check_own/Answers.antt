use Rattle.std.proofs.Common.{rules}
use Rattle.krs_watch.proofs.queues.check_own.Goals as goal

pub returns-in-Some : goal.returns-in-Some
returns-in-Some c = search rules
