use Rattle.krs_model.proofs.History.Revocations.{revoked_unread}
use Rattle.krs_model.proofs.laws.revoked_keys_stay_unread.Goals as goal

pub returns : goal.returns
returns c = revoked_unread
