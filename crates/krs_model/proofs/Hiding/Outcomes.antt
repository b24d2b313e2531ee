-- What each ask comes to with the payloads hidden.
use Rattle.std.proofs.Common.{◌≡◌, ℕ}
use Rattle.krs_types.specs.declared.ask.Op.{Op}
use Rattle.krs_model.specs.{Hiding.{blind, blind_ask, blind_outcome, Hides, Hiding}, State.State, Step.outcome_of}
use Rattle.krs_model.proofs.Asks.Laws.{law_of}

-- what an ask comes to with the payloads hidden is what it comes to, with the payloads hidden
pub outcome_blind :
    (hide : Hiding) (s : State) (client context : ℕ) (op : Op) → Hides hide
    → outcome_of (blind hide s) client context (blind_ask hide s client context op)
    ≡ blind_outcome hide s client context op (outcome_of s client context op)
outcome_blind hide s client context op hides = (law_of s client context op).blind hide hides
