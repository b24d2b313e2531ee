use Rattle.krs_model.proofs.Isolation.Steps.{none_alone}
use Rattle.krs_model.proofs.confidentiality.a_uid_begins_without_keys.Goals as goal

pub returns : goal.returns
returns c = none_alone
