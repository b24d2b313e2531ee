use Rattle.std.proofs.Common.{rules}
use Rattle.krs_types.proofs.errno.Errno.number.Goals as goal

pub returns-in-ENOKEY : goal.returns-in-ENOKEY
returns-in-ENOKEY c = search rules
