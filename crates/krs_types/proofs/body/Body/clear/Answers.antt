use Rattle.std.proofs.Common.{rules}
use Rattle.krs_types.proofs.body.Body.clear.Goals as goal

pub returns : goal.returns
returns c = search rules
