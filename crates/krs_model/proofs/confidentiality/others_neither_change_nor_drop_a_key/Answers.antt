use Rattle.krs_model.proofs.Isolation.{Histories.leaves_alone, Stays.step_unchanged}
use Rattle.krs_model.proofs.confidentiality.others_neither_change_nor_drop_a_key.Goals as goal

pub returns-clause-step : goal.returns-clause-step
returns-clause-step c = step_unchanged

pub returns-clause-always : goal.returns-clause-always
returns-clause-always c = leaves_alone
