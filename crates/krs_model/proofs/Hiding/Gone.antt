-- The payload of a key that is gone is told to nobody.
use Rattle.std.proofs.Common.{[], ◌++◌, ◌∙◌, ◌∷◌, ◌≡◌, ap, arith, List, None, Option, refl, Some, subst, sym, true, ℕ}
use native.Mathlib.Decide.{ℕ_discrete}
use Rattle.krs_types.specs.declared.{ask.Op.TheVariants.{Read, Revoke}, event.Event.Event}
use Rattle.krs_model.specs.{Hiding.{FurtherEvents, Hiding, IsBlinded, NoEvents}, History.IsLegal, Revocation.Revokes}
use Rattle.krs_model.specs.{Secrecy.{IsGone, TellsNobody}, State.{Key, raised, State}, Step.Step, Table.{at, IsBelow}}
use Rattle.krs_model.proofs.Asks.{Later.is_gone, LaterByStep.{legal_follows, raised_follows, swept_follows}}
use Rattle.krs_model.proofs.{Hiding.Clients.tells_no_unread, History.Determined.one_history}
use Rattle.krs_model.proofs.History.Revocations.{accepted_came, IsSpent, read_is_not_spent, revoke_spends}
use Rattle.krs_model.proofs.History.Revocations.{spent_follows}
use mathlib.Core.Logic.{dite}
use Rattle.std.proofs.lemmas.Grind.{common_steps}

gone_if : (o : Option Key) → ((key : Key) → o ≡ Some key → key.revoked ≡ true) → is_gone o ≡ true
gone_if None gone = refl
gone_if (Some key) gone = gone key refl

gone_then : (o : Option Key) → is_gone o ≡ true → (key : Key) → o ≡ Some key → key.revoked ≡ true
gone_then o gone key is = sym (ap is_gone is) ∙ gone

spent_of : (s : State) (serial : ℕ) → IsGone s serial → IsSpent s serial
spent_of s serial g = record { given = g.given; gone = gone_if (at s.keys serial) g.gone }

pub gone_of : (s : State) (serial : ℕ) → IsSpent s serial → IsGone s serial
gone_of s serial spent = record { given = spent.given; gone = gone_then (at s.keys serial) spent.gone }

-- it stays gone
pub stays_gone : (start end : State) (events : List Event) (serial : ℕ) → IsLegal start events end → IsGone start serial
    → IsGone end serial
stays_gone start end events serial legal g =
    gone_of end serial (spent_follows start end serial (legal_follows start events end legal) (spent_of start serial g))

-- the key of an accepted REVOKE is gone
pub revoked_gone : (old new : State) (event : Event) (serial : ℕ) → IsBelow old.keys old.next_serial
    → Step old event new → Revokes old event serial → IsGone new serial
revoked_gone old new event serial below step revokes =
    let came = accepted_came old new event (Revoke revokes.id) step revokes.asked revokes.accepted in
    let up = raised old event.moment in
    let spent = revoke_spends up came.serves.mid event.lane event.ask.context revokes.id came.answer serial below
    revokes.names came.serves.meant in
    gone_of new serial (spent_follows came.serves.mid new serial (swept_follows came.serves) spent)

legal_of : (hide : Hiding) (start end : State) (events blinded : List Event) → IsBlinded hide start events end blinded
    → IsLegal start events end
unfolding IsLegal
legal_of hide _ _ _ _ (NoEvents s) = refl
legal_of hide _ _ _ _ (FurtherEvents s next end event events blinded step rest) =
    (next, step, legal_of hide next end events blinded rest)

-- the step that a legal history makes behind its front
step_behind : (start old end : State) (before : List Event) (event : Event) (later : List Event)
    → IsLegal start before old → IsLegal start (before ++ event ∷ later) end → (next : State) × Step old event next
unfolding IsLegal
step_behind start old end [] event later front whole = grind (arith, common_steps)
step_behind start old end (x ∷ xs) event later front whole =
    let same : whole.0 ≡ front.0 =
    one_history start whole.0 front.0 (x ∷ []) (whole.0, whole.1, refl) (front.0, front.1, refl) in
    step_behind front.0 old end xs event later front.2
    (subst (λ (s : State). IsLegal s (xs ++ event ∷ later) end) same whole.2)

pub tells_nobody : (start : State) (serial : ℕ) (events : List Event) → IsGone start serial
    → TellsNobody serial start events
tells_nobody start serial events g hide client other others hides only alike =
    rw (tells_no_unread start events hide client other others hides alike (λ before later reading old k key is
    legal lane reads there kind. dite (ℕ_discrete k serial) (λ same. let whole = legal_of hide start alike.end
    events alike.blinded alike.first in let step = step_behind start old alike.end before reading later legal
    (subst (λ (l : List Event). IsLegal start l alike.end) is whole) in let came = accepted_came old step.0 reading
    (Read reads.id) step.1 reads.asked reads.accepted in let spent : IsSpent old serial = spent_follows start old
    serial (legal_follows start before old legal) (spent_of start serial g) in let up = raised old reading.moment
    in let now : IsSpent up k = subst (IsSpent up) (sym same) (spent_follows old up serial (raised_follows old
    reading.moment) spent) in absurd (read_is_not_spent up came.serves.mid reading.lane reading.ask.context
    reads.id came.answer k reads.names came.serves.meant now)) (λ apart. only k apart)))
