use Rattle.std.proofs.Common.{subst}
use Rattle.krs_laws.specs.Expired.{ExpiredStaysUnread}
use Rattle.krs_laws.proofs.{AddedOver.adds_forget, Expiry.expired_unread, Overwriting.updates_forget}
use Rattle.krs_desk.specs.Sitting.{Sitting}
use Rattle.krs_desk.proofs.KeptTurns.{knows}
use Rattle.krs_desk.proofs.seat.Seat.old_payloads_stay_untold.Goals as goal

pub returns-clause-overwritten : goal.returns-clause-overwritten
returns-clause-overwritten c = updates_forget

pub returns-clause-added : goal.returns-clause-added
returns-clause-added c = adds_forget

pub returns-clause-expired : goal.returns-clause-expired
returns-clause-expired c = subst (λ (s : Sitting). ExpiredStaysUnread s.opening) c.self.view_is
    (expired_unread _ (knows _ _ _ _ c.self.invariant.0).sound)
