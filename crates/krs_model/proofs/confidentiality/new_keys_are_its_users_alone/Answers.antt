use Rattle.krs_model.proofs.Isolation.Growth.{step_grows}
use Rattle.krs_model.proofs.confidentiality.new_keys_are_its_users_alone.Goals as goal

pub returns : goal.returns
returns c = step_grows
