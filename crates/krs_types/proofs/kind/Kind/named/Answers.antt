use Rattle.std.proofs.Common.{rules}
use Rattle.krs_types.proofs.kind.Kind.named.Goals as goal

pub returns-then-begins : goal.returns-then-begins
returns-then-begins c = search rules
