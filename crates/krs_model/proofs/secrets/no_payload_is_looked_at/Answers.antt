use Rattle.krs_model.proofs.Hiding.{Lookups.same_possessed, Searches.{same_found, same_requested}, Sweeps.sweep_blind}
use Rattle.krs_model.proofs.secrets.no_payload_is_looked_at.Goals as goal

pub returns : goal.returns
returns c = record { possessed = same_possessed; found = same_found; requested = same_requested; swept = sweep_blind }
