use Rattle.std.proofs.Common.{rules}
use Rattle.krs_keys.proofs.key.Key.would_refuse.Goals as goal

pub returns-in-Links : goal.returns-in-Links
returns-in-Links c = search rules
