-- An expired key stays so.
use Rattle.std.proofs.Common.{[], ap, arith, None, Option, refl, Some, subst, sym, true, true≢false, ℕ, ⊎_elim, ◌<◌}
use Rattle.std.proofs.{Common.{◌∙◌, ◌≡◌, ◌≤◌}, lemmas.{Bool.Decides.nat_tests, Option.{none-some, same_Some}}}
use Rattle.krs_types.specs.{declared.{event.Event.Event, rights.Want.{Want, TheVariants.Granted}}, Rights.SETATTR}
use Rattle.krs_types.specs.Rights.{WRITE}
use Rattle.krs_model.specs.{Access.is_over, Sound.IsSound, State.{Key, raised, State}, Step.Step, Table.at}
use Rattle.krs_model.proofs.{Asks.LaterByStep.step_follows, Hiding.Readers.reads_by_right}
use Rattle.krs_model.proofs.{History.Revocations.given_serial, Sound.Steps.{legal_keeps, legal_sound}}
use Rattle.krs_laws.specs.{Expired.ExpiredStaysUnread, Integrity.HasRight}
use Rattle.krs_laws.proofs.{ByRight.step_by_right, Clock.step_clock}

over_later : (a b : ℕ) (o : Option ℕ) → a ≤ b → is_over a o ≡ true → is_over b o ≡ true
over_later a b None le h = h
over_later a b (Some end) le h = grind (arith, nat_tests)

-- the key at the serial, if there is one, is over
record IsDone (s : State) (serial : ℕ) : Type 0 where
  given : serial < s.next_serial
  over : (key : Key) → at s.keys serial ≡ Some key → is_over s.clock key.expiry ≡ true

-- nobody has a right on it
no_right :
    (old : State) (moment client context serial : ℕ) (want : Want) → IsDone old serial
    → HasRight (raised old moment) client context want serial → ⊥
no_right old moment client context serial want done right =
    let later : old.clock ≤ (raised old moment).clock = omega arith in
    true≢false (sym (over_later old.clock (raised old moment).clock right.key.expiry later
    (done.over right.key right.usable.there)) ∙ right.usable.running)

step_done : (old new : State) (event : Event) (serial : ℕ) → IsSound old → IsDone old serial → Step old event new
    → IsDone new serial
step_done old new event serial sound done step =
    let follows = step_follows old new event step in
    let clock = step_clock old new event step in
    let right = step_by_right old new event sound step in
    let none : (want : Want) → HasRight (raised old event.moment) event.lane event.ask.context want serial → ⊥ =
    λ want h. no_right old event.moment event.lane event.ask.context serial want done h in
    record {
      given = let next = follows.next in let was = done.given in omega arith;
      over = λ key there.
          elim (at old.keys serial) as (λ o. at old.keys serial ≡ o → is_over new.clock key.expiry ≡ true) [
            | None ↦ λ e. absurd (none-some key (sym (follows.absent serial done.given e) ∙ there))
            | Some before ↦ λ e.
                let same : key.expiry ≡ before.expiry =
                ⊎_elim (λ (h : key.expiry ≡ before.expiry). h)
                (λ rest. ⊎_elim (λ h. absurd (none (Granted SETATTR) h.0))
                (λ h. absurd (none (Granted WRITE) h.1.right)) rest)
                (right.changed serial before key e there).expiry in
                ap (is_over new.clock) same ∙ over_later old.clock new.clock before.expiry clock (done.over before e)
          ] refl;
    }

pub expired_unread : (start : State) → IsSound start → ExpiredStaysUnread start
expired_unread start sound before old legal serial key there over later late between reading end step reads =
    let here = legal_sound start before old sound legal in
    let done = legal_keeps (λ s _. IsDone s serial)
    (λ s next _ event sound done. step_done s next event serial sound done) old late [] later here (record {
      given = given_serial old serial key here.unused there;
      over = λ v is. subst (λ (z : Key). is_over old.clock z.expiry ≡ true) (same_Some key v (sym there ∙ is)) over;
    }) between in
    let may = reads_by_right old later late between reading end serial step reads in
    let up : late.clock ≤ (raised late reading.moment).clock = omega arith in
    true≢false (sym (over_later late.clock (raised late reading.moment).clock may.key.expiry up
    (done.over may.key may.there))
    ∙ may.running)
