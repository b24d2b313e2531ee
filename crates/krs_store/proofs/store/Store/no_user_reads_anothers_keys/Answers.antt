use Rattle.std.proofs.Common.{Bool, List, subst, ℕ}
use Rattle.krs_types.specs.declared.event.Event.{Event}
use Rattle.krs_model.specs.{Confidentiality.{HasToItself, KeepsPrivate, ReadsAlone}, State.State}
use Rattle.krs_model.proofs.Isolation.{Histories.{end_alone, keeps_to_itself}, Steps.none_alone}
use Rattle.krs_store.proofs.store.Store.no_user_reads_anothers_keys.Goals as goal

pub returns-clause-reads : goal.returns-clause-reads
returns-clause-reads c =
    subst (λ (s : State). (uid : ℕ) (private : ℕ → Bool) → HasToItself uid private s → ReadsAlone uid private s)
    c.self.view_is (λ uid private alone. keeps_to_itself uid private c.self.inside.tables c.self.invariant alone)

pub returns-clause-kept : goal.returns-clause-kept
returns-clause-kept c =
    subst (λ (s : State). (uid : ℕ) (private last : ℕ → Bool) (events : List Event) (end : State)
    → HasToItself uid private s → KeepsPrivate uid private s events end last → HasToItself uid last end) c.self.view_is
    (λ uid private last events end alone keeps.
    end_alone uid private last c.self.inside.tables end events c.self.invariant alone keeps)

pub returns-clause-begins : goal.returns-clause-begins
returns-clause-begins c uid = none_alone uid _
