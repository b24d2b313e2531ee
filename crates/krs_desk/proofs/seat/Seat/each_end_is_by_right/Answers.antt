use Rattle.std.proofs.Common.{subst}
use Rattle.krs_laws.specs.Going.{AllAttachesByRight, AllQueuesAreByRight}
use Rattle.krs_laws.proofs.{Attaching.all_attach, Ending.all_end}
use Rattle.krs_desk.specs.Sitting.{Sitting}
use Rattle.krs_desk.proofs.KeptTurns.{knows}
use Rattle.krs_desk.proofs.seat.Seat.each_end_is_by_right.Goals as goal

pub returns-clause-attachments : goal.returns-clause-attachments
returns-clause-attachments c = subst (λ (s : Sitting). AllAttachesByRight s.opening) c.self.view_is
    (all_attach _ (knows _ _ _ _ c.self.invariant.0).sound)

pub returns-clause-queues : goal.returns-clause-queues
returns-clause-queues c = subst (λ (s : Sitting). AllQueuesAreByRight s.opening) c.self.view_is
    (all_end _ (knows _ _ _ _ c.self.invariant.0).sound)
