use Rattle.std.proofs.Common.{Bool, subst, ℕ}
use Rattle.krs_model.specs.{Confidentiality.{HasToItself, LeavesAlone}, State.State}
use Rattle.krs_model.proofs.Isolation.Histories.{leaves_alone}
use Rattle.krs_store.proofs.store.Store.others_neither_change_nor_drop_a_key.Goals as goal

pub returns : goal.returns
returns c =
    subst (λ (s : State). (uid : ℕ) (private : ℕ → Bool) → HasToItself uid private s → LeavesAlone uid private s)
    c.self.view_is (λ uid private alone. leaves_alone uid private c.self.inside.tables c.self.invariant alone)
