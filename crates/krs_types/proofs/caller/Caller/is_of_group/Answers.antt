use Rattle.std.proofs.Common.{rules}
use Rattle.krs_types.proofs.caller.Caller.is_of_group.Goals as goal

pub returns-then-gid-self : goal.returns-then-gid-self
returns-then-gid-self c = search rules

pub returns-else-gid-self : goal.returns-else-gid-self
returns-else-gid-self c = search rules
