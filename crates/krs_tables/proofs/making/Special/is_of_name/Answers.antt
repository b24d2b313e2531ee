use Rattle.std.proofs.Common.{rules, tests}
use Rattle.krs_tables.proofs.making.Special.is_of_name.Goals as goal

pub returns-then-eq : goal.returns-then-eq
returns-then-eq c = search (rules, tests)

pub returns-else-eq : goal.returns-else-eq
returns-else-eq c = search (rules, tests)
