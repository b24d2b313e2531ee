use Rattle.std.proofs.Common.{rules, tests}
use Rattle.krs_model.specs.Making.{made_for}
use Rattle.krs_tables.proofs.tables.Tables.wanted.Goals as goal

pub returns-in-Ok-Process-clause-made : goal.returns-in-Ok-Process-clause-made
unfolding made_for
returns-in-Ok-Process-clause-made c = search (rules, tests)
