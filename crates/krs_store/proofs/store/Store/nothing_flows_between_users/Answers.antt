use Rattle.std.proofs.Common.{Bool, subst, ℕ}
use Rattle.krs_model.specs.{Confidentiality.{HasToItself, TellsNoStranger}, State.State}
use Rattle.krs_model.proofs.Isolation.Flows.{tells_no_stranger}
use Rattle.krs_store.proofs.store.Store.nothing_flows_between_users.Goals as goal

pub returns : goal.returns
returns c =
    subst (λ (s : State). (uid : ℕ) (private : ℕ → Bool) → HasToItself uid private s → TellsNoStranger uid private s)
    c.self.view_is (λ uid private alone. tells_no_stranger uid private c.self.inside.tables c.self.invariant alone)
