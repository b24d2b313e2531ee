use Rattle.krs_model.proofs.Hiding.Steps.{step_blind}
use Rattle.krs_model.proofs.secrets.steps_hide_payloads.Goals as goal

pub returns : goal.returns
returns c = step_blind
