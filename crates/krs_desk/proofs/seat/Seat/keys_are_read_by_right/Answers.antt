use Rattle.std.proofs.Common.{subst}
use Rattle.krs_model.proofs.Hiding.Readers.{reads_by_right}
use Rattle.krs_desk.specs.{Seen.AreReadByRight, Sitting.Sitting}
use Rattle.krs_desk.proofs.{KeptTurns.knows, Seen.read_by_right}
use Rattle.krs_desk.proofs.seat.Seat.keys_are_read_by_right.Goals as goal

pub returns-clause-seen : goal.returns-clause-seen
returns-clause-seen c =
    let seated = knows _ _ _ _ c.self.invariant.0 in
    subst (λ (s : Sitting). AreReadByRight s.opening s.part.seen) c.self.view_is
    (read_by_right _ seated.last _ (reads_by_right _) seated.legal)

pub returns-clause-always : goal.returns-clause-always
returns-clause-always c = reads_by_right _
