use Rattle.std.proofs.Common.{rules}
use Rattle.krs_keys.proofs.key.Content.empty.Goals as goal

pub returns-in-Payload : goal.returns-in-Payload
returns-in-Payload c = search rules
