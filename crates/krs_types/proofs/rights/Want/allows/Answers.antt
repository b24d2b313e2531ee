use Rattle.std.proofs.Common.{rules}
use Rattle.krs_types.proofs.rights.Want.allows.Goals as goal

pub returns-then-possessed : goal.returns-then-possessed
returns-then-possessed c = search rules

pub returns-else-possessed : goal.returns-else-possessed
returns-else-possessed c = search rules
