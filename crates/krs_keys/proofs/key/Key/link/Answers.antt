use Rattle.std.proofs.Common.{rules}
use Rattle.krs_keys.proofs.key.Key.link.Goals as goal

pub returns-in-Links-clause-ok : goal.returns-in-Links-clause-ok
returns-in-Links-clause-ok c = search rules
