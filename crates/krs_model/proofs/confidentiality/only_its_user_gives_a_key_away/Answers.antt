use Rattle.krs_model.proofs.Isolation.Steps.{step_alone}
use Rattle.krs_model.proofs.confidentiality.only_its_user_gives_a_key_away.Goals as goal

pub returns : goal.returns
returns c = step_alone
