use Rattle.krs_laws.proofs.Expiry.{expired_unread}
use Rattle.krs_laws.proofs.expired.expired_keys_stay_unread.Goals as goal

pub returns : goal.returns
returns c = expired_unread
