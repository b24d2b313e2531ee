use Rattle.std.proofs.Common.{refl}
use Rattle.krs_rows.specs.Answers.{each_definition}
use Rattle.krs_rows.proofs.rows.rows_of_numbers.Goals as goal

pub returns-clause-last_serials : goal.returns-clause-last_serials
unfolding each_definition
returns-clause-last_serials c = refl

pub returns-clause-one_serial_left : goal.returns-clause-one_serial_left
unfolding each_definition
returns-clause-one_serial_left c = refl
