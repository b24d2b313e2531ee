use Rattle.std.proofs.Common.{subst}
use Rattle.krs_laws.specs.Noting.{AllNotesAreCalledFor, AllWatchesAreByRight}
use Rattle.krs_laws.proofs.{Callers.all_called, Watchers.{all_set, owners_ask}, WatchesSet.all_by_right}
use Rattle.krs_desk.specs.Sitting.{Sitting}
use Rattle.krs_desk.proofs.KeptTurns.{knows}
use Rattle.krs_desk.proofs.seat.Seat.notes_are_by_right.Goals as goal

pub returns-clause-owners : goal.returns-clause-owners
returns-clause-owners c = owners_ask

pub returns-clause-watches : goal.returns-clause-watches
returns-clause-watches c = subst (λ (s : Sitting). AllWatchesAreByRight s.opening) c.self.view_is
    (all_set _ (knows _ _ _ _ c.self.invariant.0).sound)

pub returns-clause-records : goal.returns-clause-records
returns-clause-records c = subst (λ (s : Sitting). AllNotesAreCalledFor s.opening) c.self.view_is
    (all_called _ (knows _ _ _ _ c.self.invariant.0).sound)

pub returns-clause-set : goal.returns-clause-set
returns-clause-set c = all_by_right _
