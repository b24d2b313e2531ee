use Rattle.krs_model.proofs.Hiding.Steps.{blinded_legal, history_blinded}
use Rattle.krs_model.proofs.secrets.histories_hide_payloads.Goals as goal

pub returns : goal.returns
returns c = record { some = history_blinded; legal = blinded_legal }
