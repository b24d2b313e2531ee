-- What is left in a store when all clients have left: keyrings(7), "Anchoring keys"; profile, leaving.
use Rattle.std.specs.Prelude.{[], ◌∷◌, ◌≡◌, ◌⊎◌, List, ℕ}
use Rattle.krs_types.specs.declared.{ask.Op.TheVariants.Leave, event.Event.Event}
use Rattle.krs_model.specs.{Belonging.HasNothing, History.IsLegal, State.State}
use Rattle.krs_laws.specs.Belonging.{BeganEmpty}

-- nothing is kept: what remains are the numbers that come next, and the clock
pub record IsEmpty (s : State) : Type 0 where
  pub keys : s.keys ≡ []
  pub contexts : s.contexts ≡ []
  pub processes : s.processes ≡ []
  pub uids : s.uids ≡ []
  pub queues : s.queues ≡ []
  pub watches : s.watches ≡ []

-- in each history from this state on, once no client has a context or a queue, nothing is kept
abbrev pub AreEmptiedInTheEnd : State → Type 0
AreEmptiedInTheEnd start =
    (events : List Event) (end : State) → IsLegal start events end
    → ((client : ℕ) → HasNothing client end) → IsEmpty end

-- one of these events is a LEAVE of the client
abbrev pub IsLeft : ℕ → List Event → Type 0
IsLeft client [] = ⊥
IsLeft client (event ∷ events) = ((event.lane ≡ client) × (event.ask.op ≡ Leave)) ⊎ IsLeft client events

-- each client that asks anything leaves, then or later
abbrev pub HaveLeft : List Event → Type 0
HaveLeft [] = Unit {0}
HaveLeft (event ∷ events) = IsLeft event.lane (event ∷ events) × HaveLeft events

-- in each history of a store that began empty, once all clients have left, nothing is kept
abbrev pub AreEmptiedByLeaving : State → Type 0
AreEmptiedByLeaving start =
    BeganEmpty start → (events : List Event) (end : State) → IsLegal start events end → HaveLeft events → IsEmpty end
