-- Which asks may find no memory: docs/FORMAT.md, "Asks that take no memory".
use Rattle.std.specs.Prelude.{Bool}
use Rattle.krs_types.specs.{Rows.row_of, declared.ask.Op.Op}
pub use Rattle.krs_types.specs.Rows.{has_destination, ends_watch}

-- the ask takes memory: it makes something, links a key, keeps bytes, or is answered with bytes
abbrev pub grows : Op → Bool
grows op = (row_of op).grows
