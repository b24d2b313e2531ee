use Rattle.std.proofs.Common.{subst}
use Rattle.krs_desk.specs.{Seen.IsOneHistory, Sitting.Sitting}
use Rattle.krs_desk.proofs.KeptTurns.{knows}
use Rattle.krs_desk.proofs.seat.Seat.has_seen_one_history.Goals as goal

pub returns : goal.returns
returns c = subst (λ (s : Sitting). IsOneHistory s.opening s.part.seen) c.self.view_is
    ((knows _ _ _ _ c.self.invariant.0).last, (knows _ _ _ _ c.self.invariant.0).legal)
