use Rattle.std.proofs.Common.{rules}
use Rattle.krs_types.proofs.name.NamePartialEq.eq.Goals as goal

pub returns-then-number : goal.returns-then-number
returns-then-number c = search rules

pub returns-else-number : goal.returns-else-number
returns-else-number c = search rules
