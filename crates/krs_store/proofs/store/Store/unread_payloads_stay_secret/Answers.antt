use Rattle.krs_model.proofs.Hiding.Clients.{keeps_secrets}
use Rattle.krs_store.proofs.store.Store.unread_payloads_stay_secret.Goals as goal

pub returns : goal.returns
returns c = keeps_secrets _
