use Rattle.krs_model.proofs.Isolation.{Births.step_births, Steps.alone_not_given}
use Rattle.krs_model.proofs.confidentiality.keys_made_within_are_not_given_away.Goals as goal

pub returns-clause-made : goal.returns-clause-made
returns-clause-made c = step_births

pub returns-clause-kept : goal.returns-clause-kept
returns-clause-kept c = alone_not_given
