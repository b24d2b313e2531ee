use Rattle.std.proofs.Common.{subst}
use Rattle.krs_laws.specs.{Integrity.AllChangesAreByRight, Marks.ShortAsksDropOneAtMost}
use Rattle.krs_model.proofs.Notes.Quiet.{tells_none}
use Rattle.krs_laws.proofs.{ByRight.all_by_right, Dropping.short_drop_one}
use Rattle.krs_desk.specs.Sitting.{Sitting}
use Rattle.krs_desk.proofs.KeptTurns.{knows}
use Rattle.krs_desk.proofs.seat.Seat.each_change_is_by_right.Goals as goal

pub returns-clause-right : goal.returns-clause-right
returns-clause-right c = subst (λ (s : Sitting). AllChangesAreByRight s.opening) c.self.view_is
    (all_by_right _ (knows _ _ _ _ c.self.invariant.0).sound)

pub returns-clause-short : goal.returns-clause-short
returns-clause-short c = subst (λ (s : Sitting). ShortAsksDropOneAtMost s.opening) c.self.view_is
    (short_drop_one _ (knows _ _ _ _ c.self.invariant.0).sound)

pub returns-clause-quiet : goal.returns-clause-quiet
returns-clause-quiet c = tells_none
