use Rattle.std.proofs.Common.{rules}
use Rattle.krs_tables.proofs.tables.Tables.raise.Goals as goal

pub returns : goal.returns
returns c = search rules
