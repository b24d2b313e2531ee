use Rattle.std.proofs.Common.{rules}
use Rattle.krs_model.specs.Lookup.{serial_of}
use Rattle.krs_tables.proofs.tables.Tables.serial_of.Goals as goal

pub returns : goal.returns
unfolding serial_of
returns c = search (rules, c.from_i32.ensures)
