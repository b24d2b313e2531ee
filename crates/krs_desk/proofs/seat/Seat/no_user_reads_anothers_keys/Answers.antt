use Rattle.std.proofs.Common.{Bool, List, subst, ℕ}
use Rattle.krs_types.specs.declared.event.Event.{Event}
use Rattle.krs_model.specs.{Confidentiality.{HasToItself, KeepsPrivate, ReadsAlone}, State.State}
use Rattle.krs_model.proofs.Isolation.{Histories.{end_alone, keeps_to_itself}, Steps.none_alone}
use Rattle.krs_desk.specs.{Confidentiality.AreReadAlone, Sitting.Sitting}
use Rattle.krs_desk.proofs.{KeptTurns.knows, ReadAlone.read_alone}
use Rattle.krs_desk.proofs.seat.Seat.no_user_reads_anothers_keys.Goals as goal

pub returns-clause-seen : goal.returns-clause-seen
returns-clause-seen c =
    let seated = knows _ _ _ _ c.self.invariant.0 in
    subst (λ (s : Sitting). AreReadAlone s.opening s.part.seen) c.self.view_is
    (read_alone _ seated.last _ seated.sound seated.legal)

pub returns-clause-always : goal.returns-clause-always
returns-clause-always c = subst (λ (s : Sitting). (uid : ℕ) (private : ℕ → Bool) → HasToItself uid private s.opening
    → ReadsAlone uid private s.opening) c.self.view_is
    (λ uid private alone. keeps_to_itself uid private _ (knows _ _ _ _ c.self.invariant.0).sound alone)

pub returns-clause-kept : goal.returns-clause-kept
returns-clause-kept c = subst (λ (s : Sitting). (uid : ℕ) (private last : ℕ → Bool) (events : List Event) (end : State)
    → HasToItself uid private s.opening → KeepsPrivate uid private s.opening events end last
    → HasToItself uid last end) c.self.view_is (λ uid private last events end alone keeps.
    end_alone uid private last _ end events (knows _ _ _ _ c.self.invariant.0).sound alone keeps)

pub returns-clause-begins : goal.returns-clause-begins
returns-clause-begins c uid = none_alone uid _
