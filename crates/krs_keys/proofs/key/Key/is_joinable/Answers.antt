use Rattle.std.proofs.Common.{rules}
use Rattle.krs_keys.proofs.key.Key.is_joinable.Goals as goal

pub returns-then-is_alive : goal.returns-then-is_alive
returns-then-is_alive c = search rules

pub returns-else-is_alive : goal.returns-else-is_alive
returns-else-is_alive c = search rules
