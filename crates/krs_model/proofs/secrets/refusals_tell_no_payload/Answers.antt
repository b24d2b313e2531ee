use Rattle.krs_model.proofs.Hiding.Refusals.{add_refused, update_refused}
use Rattle.krs_model.proofs.secrets.refusals_tell_no_payload.Goals as goal

pub returns : goal.returns
returns c = record { added = add_refused; updated = update_refused }
