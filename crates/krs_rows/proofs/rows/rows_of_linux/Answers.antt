use Rattle.std.proofs.Common.{refl}
use Rattle.krs_rows.specs.Answers.{each_definition}
use Rattle.krs_rows.proofs.rows.rows_of_linux.Goals as goal

pub returns-clause-traces_from_1 : goal.returns-clause-traces_from_1
unfolding each_definition
returns-clause-traces_from_1 c = refl

pub returns-clause-traces_from_41 : goal.returns-clause-traces_from_41
unfolding each_definition
returns-clause-traces_from_41 c = refl

pub returns-clause-traces_from_81 : goal.returns-clause-traces_from_81
unfolding each_definition
returns-clause-traces_from_81 c = refl

pub returns-clause-traces_from_121 : goal.returns-clause-traces_from_121
unfolding each_definition
returns-clause-traces_from_121 c = refl

pub returns-clause-traces_from_161 : goal.returns-clause-traces_from_161
unfolding each_definition
returns-clause-traces_from_161 c = refl
