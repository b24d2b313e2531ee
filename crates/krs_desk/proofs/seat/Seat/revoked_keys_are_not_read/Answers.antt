use Rattle.std.proofs.Common.{subst}
use Rattle.krs_model.specs.Revocation.{StaysUnread}
use Rattle.krs_model.proofs.History.Revocations.{revoked_unread}
use Rattle.krs_desk.specs.{Between.RefusesRevoked, Running.StaysRefused, Seen.IsNotReadRevoked, Sitting.Sitting}
use Rattle.krs_desk.proofs.{Between.refuses_revoked, KeptTurns.knows, Running.stays_refused, Seen.not_read_revoked}
use Rattle.krs_desk.proofs.seat.Seat.revoked_keys_are_not_read.Goals as goal

pub returns-clause-seen : goal.returns-clause-seen
returns-clause-seen c =
    let seated = knows _ _ _ _ c.self.invariant.0 in
    subst (λ (s : Sitting). IsNotReadRevoked s.opening s.part.seen) c.self.view_is
    (not_read_revoked _ seated.last _ (revoked_unread _ seated.sound.unused) seated.legal)

pub returns-clause-always : goal.returns-clause-always
returns-clause-always c = subst (λ (s : Sitting). StaysUnread s.opening) c.self.view_is
    (revoked_unread _ (knows _ _ _ _ c.self.invariant.0).sound.unused)

pub returns-clause-between : goal.returns-clause-between
returns-clause-between c = subst (λ (s : Sitting). RefusesRevoked s.opening) c.self.view_is
    (refuses_revoked _ (revoked_unread _ (knows _ _ _ _ c.self.invariant.0).sound.unused))

pub returns-clause-running : goal.returns-clause-running
returns-clause-running c = subst (λ (s : Sitting). StaysRefused s.opening) c.self.view_is
    (stays_refused _ (revoked_unread _ (knows _ _ _ _ c.self.invariant.0).sound.unused))
