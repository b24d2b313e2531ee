use Rattle.std.proofs.Common.{rules}
use Rattle.krs_tables.proofs.holding.hold_of.Goals as goal

pub returns-in-Some : goal.returns-in-Some
returns-in-Some c = search rules
