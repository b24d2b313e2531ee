use Rattle.std.proofs.Common.{rules}
use Rattle.krs_types.proofs.key_id.KeyId.from_i32.Goals as goal

pub returns-in_default : goal.returns-in_default
returns-in_default c = search rules
