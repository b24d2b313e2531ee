use Rattle.std.proofs.Common.{rules}
use Rattle.krs_notes.proofs.filter.Filter.passes.Goals as goal

pub returns-in-Removal : goal.returns-in-Removal
returns-in-Removal c = search rules
