use Rattle.std.proofs.Common.{Bool, subst, ℕ}
use Rattle.krs_model.specs.Confidentiality.{HasToItself, TellsNoStranger}
use Rattle.krs_model.proofs.Isolation.Flows.{tells_no_stranger}
use Rattle.krs_desk.specs.Sitting.{Sitting}
use Rattle.krs_desk.proofs.KeptTurns.{knows}
use Rattle.krs_desk.proofs.seat.Seat.nothing_flows_between_users.Goals as goal

pub returns : goal.returns
returns c = subst (λ (s : Sitting). (uid : ℕ) (private : ℕ → Bool) → HasToItself uid private s.opening
    → TellsNoStranger uid private s.opening) c.self.view_is
    (λ uid private alone. tells_no_stranger uid private _ (knows _ _ _ _ c.self.invariant.0).sound alone)
