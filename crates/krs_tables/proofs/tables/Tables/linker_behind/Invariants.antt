use Rattle.std.proofs.Common.{◌-◌, ◌^◌, ◌≤◌}
use Rattle.krs_tables.proofs.tables.Tables.linker_behind.Given as goal

abbrev pub invariant-noted : goal.invariant-noted
invariant-noted l = l.fn.last ≤ l.last

abbrev pub decreases-noted : goal.decreases-noted
decreases-noted l = 2 ^ 32 - l.last
