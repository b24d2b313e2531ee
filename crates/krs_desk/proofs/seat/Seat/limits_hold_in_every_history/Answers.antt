use Rattle.std.proofs.Common.{subst}
use Rattle.krs_laws.specs.{Emptied.AreEmptiedInTheEnd, Limits.{IsWithinLimits, StaysWithinLimits}}
use Rattle.krs_laws.proofs.{Leftovers.emptied, Opened.emptied_by_leaving, WithinLimits.stays_within}
use Rattle.krs_desk.specs.Sitting.{Sitting}
use Rattle.krs_desk.proofs.KeptTurns.{knows}
use Rattle.krs_desk.proofs.seat.Seat.limits_hold_in_every_history.Goals as goal

pub returns-clause-limits : goal.returns-clause-limits
returns-clause-limits c = subst (λ (s : Sitting). IsWithinLimits s.opening → StaysWithinLimits s.opening) c.self.view_is
    (stays_within _ (knows _ _ _ _ c.self.invariant.0).sound)

pub returns-clause-emptied : goal.returns-clause-emptied
returns-clause-emptied c = subst (λ (s : Sitting). AreEmptiedInTheEnd s.opening) c.self.view_is
    (emptied _ (knows _ _ _ _ c.self.invariant.0).sound)

pub returns-clause-left : goal.returns-clause-left
returns-clause-left c = emptied_by_leaving _
