-- Each watch was set by right in a history that began empty.
use Rattle.std.proofs.Common.{[], ap, append_assoc, List, refl, subst, sym, ℕ, ⊎_elim, ◌++◌, ◌∙◌, ◌∷◌, ◌≡◌, ◌⊎◌}
use Rattle.std.specs.List.{AllByRecursion}
use Rattle.krs_types.specs.declared.{event.Event.Event, note.Record.{Record, TheVariants.{Key, Loss, Removal}}}
use Rattle.krs_model.specs.{History.IsLegal, Orderly.Each, Queues.Watch, Receiving.called_for, Sound.IsSound}
use Rattle.krs_model.specs.{State.{raised, State}, Step.Step}
use Rattle.krs_model.proofs.{History.Legal.{legal_more, legal_none}, Notes.Fitting.each_on, Sound.Steps.legal_keeps}
use Rattle.krs_model.proofs.Sound.Steps.{start_sound}
use Rattle.krs_laws.specs.Noting.{AllNotesAreByRight, IsCalledFor, IsSetBy, IsToldByRight, IsWatched, WasSet}
use Rattle.krs_laws.proofs.{Callers.all_called, Watchers.step_set}
use Rattle.std.proofs.Common.{arith}
use Rattle.std.proofs.lemmas.Grind.{common_steps}

-- what holds of each watch holds of one of them
of_watched : (P : Watch → Type 0) (ws : List Watch) (w : Watch) → Each P ws → IsWatched w ws → P w
of_watched P [] w each is = absurd is
of_watched P (v ∷ ws) w each is =
    ⊎_elim (λ (same : v ≡ w). subst P same each.0) (λ later. of_watched P ws w each.1 later) is

set_more : (start : State) (past : List Event) (event : Event) (w : Watch) → WasSet start past w
    → WasSet start (past ++ event ∷ []) w
set_more start past event w h = (
  h.0,
  h.1,
  h.2 ++ event ∷ [],
  ap (λ (l : List Event). l ++ event ∷ []) h.3 ∙ append_assoc h.0 (h.1 ∷ h.2) (event ∷ []),
  h.4,
  h.5,
  h.6,
)

set_on :
    (start old new : State) (past : List Event) (event : Event) → IsLegal start past old
    → Each (WasSet start past) old.watches → Step old event new → Each (WasSet start (past ++ event ∷ [])) new.watches
set_on start old new past event legal known step =
    let up = raised old event.moment in
    each_on (λ w. IsWatched w old.watches ⊎ IsSetBy up event.lane event.ask.context event.ask.op w)
    (WasSet start (past ++ event ∷ [])) new.watches
    (λ w h. ⊎_elim
    (λ (was : IsWatched w old.watches).
    set_more start past event w (of_watched (WasSet start past) old.watches w known was))
    (λ (set : IsSetBy up event.lane event.ask.context event.ask.op w). (past, event, [], refl, old, legal, set)) h)
    (step_set old new event step)

-- ---- records
told_by_set :
    (start old : State) (before : List Event) (number : ℕ) (note : Record) → Each (WasSet start before) old.watches
    → IsCalledFor old.watches number note → IsToldByRight start before number note
told_by_set start old before number (Key event id key aux) each is = grind (arith, common_steps, of_watched)
told_by_set start old before number (Removal id key) each is = grind (arith, common_steps, of_watched)
told_by_set start old before number Loss each is = is

all_told :
    (start old : State) (before : List Event) (number : ℕ) (notes : List Record)
    → Each (WasSet start before) old.watches → AllByRecursion (IsCalledFor old.watches number) notes
    → AllByRecursion (IsToldByRight start before number) notes
all_told start old before number [] each all = tt
all_told start old before number (note ∷ notes) each all =
    grind (arith, common_steps, told_by_set, all_told start old before number notes each all.1)

pub all_by_right : (start : State) → AllNotesAreByRight start
all_by_right start empty before old legal event new step number =
    let sound = subst IsSound (sym empty.1) (start_sound empty.0) in
    let none : Each (WasSet start []) start.watches =
    subst (λ (t : State). Each (WasSet start []) t.watches) (sym empty.1) tt in
    all_told start old before number (called_for number old event new)
    (legal_keeps (λ s past. IsLegal start past s × Each (WasSet start past) s.watches)
    (λ s next past step_event _ known step. (
      legal_more start s next past step_event known.0 step,
      set_on start s next past step_event known.0 known.1 step,
    )) start old [] before sound (legal_none start, none) legal).1
    (all_called start sound before old legal event new step number)
