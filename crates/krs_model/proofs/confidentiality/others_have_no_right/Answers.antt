use Rattle.krs_model.proofs.Isolation.Steps.{others_rights}
use Rattle.krs_model.proofs.confidentiality.others_have_no_right.Goals as goal

pub returns : goal.returns
returns c = others_rights
