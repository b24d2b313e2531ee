use Rattle.std.proofs.Common.{rules}
use Rattle.krs_types.proofs.body.Body.copy.Goals as goal

pub returns : goal.returns
returns c = search rules
