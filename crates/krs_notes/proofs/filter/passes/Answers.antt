use Rattle.std.proofs.Common.{rules}
use Rattle.krs_notes.proofs.filter.passes.Goals as goal

pub returns-in-None : goal.returns-in-None
returns-in-None c = search rules
