use Rattle.std.proofs.Common.{rules}
use Rattle.krs_types.proofs.kind.Kind.check_own_description.Goals as goal

pub returns-in-WithService-2 : goal.returns-in-WithService-2
returns-in-WithService-2 c = search rules
