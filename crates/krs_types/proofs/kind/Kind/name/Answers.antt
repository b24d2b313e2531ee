use Rattle.std.proofs.Common.{rules}
use Rattle.krs_types.proofs.kind.Kind.name.Goals as goal

pub returns-in-Logon : goal.returns-in-Logon
returns-in-Logon c = search rules
