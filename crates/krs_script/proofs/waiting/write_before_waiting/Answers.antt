use Rattle.std.proofs.Common.{rules}
use Rattle.krs_script.proofs.waiting.write_before_waiting.Goals as goal

pub returns-clause-ok : goal.returns-clause-ok
returns-clause-ok g c = search rules
