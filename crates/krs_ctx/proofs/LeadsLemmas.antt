-- From what contexts answer to what an ask of a store comes to: for the store's own asks.
use Rattle.std.proofs.Common.{◌≡◌, arith, Err, IsErrAnd, IsOk, Ok, refl, Result, ℕ}
use Rattle.krs_types.specs.declared.ask.Answer.{Answer}
use Rattle.krs_types.specs.declared.{errno.Errno.Errno, fault.Fault.{Fault, TheVariants.{Memory, Refused}}}
use Rattle.krs_model.specs.{Asks.Leaving.left, Outcome.{Leads, Outcome}, Queues.queues_without, State.State}
use Rattle.krs_ctx.specs.Anchors.{anchored, Anchors, anchors_of}
use Rattle.std.proofs.lemmas.Grind.{common_steps}

pub leads_refused : (s : State) (old new : Anchors) (r : Result Answer Fault) (e : Errno) (meant : State → Outcome)
    → IsErrAnd r (λ f. f ≡ Refused e) → ((q : State) → meant (anchored q old) ≡ Err e) → new ≡ old
    → Leads (anchored s old) r (anchored s new) (meant (anchored s old))
leads_refused s old new (Ok x) e meant is refuses same = absurd is
leads_refused s old new (Err f) e meant is refuses same = grind (arith, common_steps)

pub leads_memory : (s : State) (old new : Anchors) (r : Result Answer Fault) (meant : State → Outcome)
    → IsErrAnd r (λ f. f ≡ Memory) → IsOk (meant (anchored s old)) → new ≡ old
    → Leads (anchored s old) r (anchored s new) (meant (anchored s old))
leads_memory s old new (Ok x) meant is accepted same = absurd is
leads_memory s old new (Err f) meant is accepted same = grind (arith, common_steps)

-- LEAVE, in any store: its contexts are those that are told, and its queues and watches end by themselves
pub left_whole : (s : State) (old new : Anchors) (client : ℕ) → new ≡ anchors_of (left (anchored s old) client)
    → left (anchored s old) client
    ≡ record (anchored s new) { queues = queues_without client s.queues; watches = (left s client).watches }
unfolding left
left_whole s old new client is = rw is refl
