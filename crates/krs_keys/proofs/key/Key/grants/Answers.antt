use Rattle.std.proofs.Common.{rules}
use Rattle.krs_keys.proofs.key.Key.grants.Goals as goal

pub returns : goal.returns
returns c = search rules
