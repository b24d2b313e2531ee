use Rattle.std.proofs.Common.{rules}
use Rattle.krs_types.proofs.key_id.Serial.number.Goals as goal

pub returns : goal.returns
returns c = search rules
