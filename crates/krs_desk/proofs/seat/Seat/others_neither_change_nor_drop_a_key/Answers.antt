use Rattle.std.proofs.Common.{Bool, subst, ℕ}
use Rattle.krs_model.specs.Confidentiality.{HasToItself, LeavesAlone}
use Rattle.krs_model.proofs.Isolation.Histories.{leaves_alone}
use Rattle.krs_desk.specs.Sitting.{Sitting}
use Rattle.krs_desk.proofs.KeptTurns.{knows}
use Rattle.krs_desk.proofs.seat.Seat.others_neither_change_nor_drop_a_key.Goals as goal

pub returns : goal.returns
returns c = subst (λ (s : Sitting). (uid : ℕ) (private : ℕ → Bool) → HasToItself uid private s.opening
    → LeavesAlone uid private s.opening) c.self.view_is
    (λ uid private alone. leaves_alone uid private _ (knows _ _ _ _ c.self.invariant.0).sound alone)
