use Rattle.std.proofs.Common.{rules}
use Rattle.krs_keys.proofs.placed.PlacedKeys.reserve.Goals as goal

pub returns-clause-room : goal.returns-clause-room
returns-clause-room c = search rules
