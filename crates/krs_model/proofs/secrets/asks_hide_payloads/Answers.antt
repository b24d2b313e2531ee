use Rattle.krs_model.proofs.Hiding.Outcomes.{outcome_blind}
use Rattle.krs_model.proofs.secrets.asks_hide_payloads.Goals as goal

pub returns : goal.returns
returns c = outcome_blind
