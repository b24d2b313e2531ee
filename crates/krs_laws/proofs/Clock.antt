-- No ask sets the clock.
use Rattle.std.proofs.Common.{◌∙◌, ◌≡◌, ◌≤◌, ap, arith, Err, max, Ok, refl, Result, ℕ}
use Rattle.krs_types.specs.declared.{ask.{Answer.Answer, Op.Op}, errno.Errno.Errno, event.Event.Event}
use Rattle.krs_model.specs.{Asks.Leaving.left, State.{State}, Step.{Ends, Step}}
use Rattle.krs_model.proofs.Asks.Effects.{Closes, Effect, effect_of, Filters, Leaves, OfKeys, Opens, Reads, Unwatches}
use Rattle.krs_model.proofs.Asks.Effects.{Watches}
use Rattle.std.proofs.lemmas.Grind.{common_steps}

left_clock : (s : State) (client : ℕ) → (left s client).clock ≡ s.clock
unfolding left
left_clock s client = refl

effect_clock :
    (s : State) (client context : ℕ) (op : Op) (new : State) (answer : Answer) → Effect s client context op new answer
    → new.clock ≡ s.clock
effect_clock s client context op _ _ (OfKeys _ new answer other comes none) = comes.clock
effect_clock s client context _ _ _ (Opens capacity fits) = refl
effect_clock s client context _ _ _ (Filters number entries queue there) = refl
effect_clock s client context _ _ _ (Reads number room queue there) = refl
effect_clock s client context _ _ _ (Closes number queue there) = refl
effect_clock s client context _ _ _ (Watches id watch_id number key n queue here there asked small) = refl
effect_clock s client context _ _ _ (Unwatches id watch_id number key n queue here names there asked is) = refl
effect_clock s client context _ _ _ Leaves = left_clock s client

ended_clock : (s new : State) (client context : ℕ) (op : Op) (reply : Result Answer Errno)
    → Ends s client context op reply new → new.clock ≡ s.clock
ended_clock s new client context op (Ok answer) ends =
    ap (λ (t : State). t.clock) ends.posted ∙ (ap (λ (t : State). t.clock) ends.sweep.rest
    ∙ effect_clock s client context op ends.mid answer (effect_of s client context op ends.mid answer ends.meant))
ended_clock s new client context op (Err e) ends = ap (λ (t : State). t.clock) ends.1

-- the clock never falls back
pub step_clock : (old new : State) (event : Event) → Step old event new → old.clock ≤ new.clock
unfolding Step
step_clock old new event step = grind (arith, common_steps, max, ended_clock)
