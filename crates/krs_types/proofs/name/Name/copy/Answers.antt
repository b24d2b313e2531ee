use Rattle.std.proofs.Common.{rules}
use Rattle.krs_types.proofs.name.Name.copy.Goals as goal

pub returns : goal.returns
returns c = search rules
