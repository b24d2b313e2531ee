-- What is proved of each ask. A further ask has a record of these facts in the file of its subject, in a set of `Laws`.
use Rattle.std.proofs.Common.{◌≡◌, Ok, ℕ}
use Rattle.krs_types.specs.declared.ask.{Answer.Answer, Op.Op}
use Rattle.krs_model.specs.Hiding.{blind, blind_ask, blind_outcome, Hides, Hiding}
use Rattle.krs_model.specs.{Notes.Telling.notes_of, State.State, Step.outcome_of, Table.IsBelow}
use Rattle.krs_model.proofs.{Asks.{Fares.Fares, Outcomes.Meets, Plain.IsPlain}, Notes.Fitting.AllSmall}

pub record IsLawful (s : State) (client context : ℕ) (op : Op) : Type 0 where
  -- the keys that its notes name have serials that fit a record
  pub small : (mid : State) (answer : Answer) → IsBelow mid.keys 2147483648
      → outcome_of s client context op ≡ Ok (mid, answer) → AllSmall (notes_of s client context op answer)
  -- it may be refused, but not with ENOMEM
  pub plain : IsPlain (outcome_of s client context op)
  -- with the payloads hidden it comes to what it comes to, with the payloads hidden
  pub blind : (hide : Hiding) → Hides hide
      → outcome_of (blind hide s) client context (blind_ask hide s client context op)
      ≡ blind_outcome hide s client context op (outcome_of s client context op)
  -- what it leaves, where it is accepted
  pub fares : Meets (Fares s client context op) (outcome_of s client context op)
