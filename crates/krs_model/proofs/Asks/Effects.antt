-- What an accepted ask has done.
use Rattle.std.proofs.Common.{◌≡◌, arith, Ok, refl, ℕ}
use Rattle.krs_types.specs.declared.ask.Answer.{Answer, TheVariants.Nothing}
use Rattle.krs_types.specs.declared.ask.Op.{Op, TheVariants.{CloseQueue, Leave, OpenQueue, ReadQueue, SetFilter, Watch}}
use Rattle.krs_model.specs.{Asks.Leaving.left, State.State, Step.outcome_of}
pub use Rattle.krs_model.proofs.Asks.Done.{Effect, Closes, Filters, Leaves, OfKeys, Opens, Reads, Unwatches, Watches}
pub use Rattle.krs_model.proofs.Asks.Done.{is_of_queues, queue_there, readable_is, unwatched_is}
use Rattle.krs_model.proofs.Asks.Done.{ends_as}
use Rattle.krs_model.proofs.Asks.Later.{same_ok}
use Rattle.krs_model.proofs.Asks.Laws.{law_of}
use Rattle.krs_model.proofs.Asks.Watching.{watches, opens, filters, reads, closes}
use Rattle.std.proofs.lemmas.Grind.{common_steps}

-- what an ask has done that was accepted
pub effect_of :
    (s : State) (client context : ℕ) (op : Op) (new : State) (answer : Answer)
    → outcome_of s client context op ≡ Ok (new, answer) → Effect s client context op new answer
effect_of s client context (Watch id queue watch_id) new answer h = grind (arith, common_steps, watches)
effect_of s client context (OpenQueue capacity) new answer h = opens s client context capacity new answer h
effect_of s client context (SetFilter queue entries) new answer h = filters s client context queue entries new answer h
effect_of s client context (ReadQueue queue room) new answer h = reads s client context queue room new answer h
effect_of s client context (CloseQueue queue) new answer h = closes s client context queue new answer h
effect_of s client context Leave new answer h =
    ends_as s client context Leave _ new _ answer Leaves (same_ok (Ok (left s client, Nothing)) _ _ refl h)
effect_of s client context op new answer h =
    OfKeys op new answer refl (((law_of s client context op).fares.meets new answer h).comes refl) refl
