-- Laws of steps.
use Rattle.std.proofs.Common.{◌≡◌, arith, Err, IsErr, Ok, Result, sym, true≢false, ℕ}
use Rattle.krs_types.specs.declared.{ask.{Answer.Answer, Op.Op}, errno.Errno.Errno, event.Event.Event}
use Rattle.krs_model.specs.{State.{raised, State}, Step.{Ends, Step}}
use Rattle.std.proofs.lemmas.Grind.{common_steps}

err_stays :
    (s new : State) (client context : ℕ) (op : Op) (reply : Result Answer Errno) → Ends s client context op reply new
    → IsErr reply → new ≡ s
err_stays s new client context op (Ok answer) ends h = absurd (true≢false (sym h))
err_stays s new client context op (Err e) ends h = ends.1

-- a refusal changes nothing but the clock
pub refusal_stays :
    (old new : State) (event : Event) → Step old event new → IsErr event.reply → new ≡ raised old event.moment
unfolding Step
refusal_stays old new event step h = grind (arith, common_steps, err_stays)
