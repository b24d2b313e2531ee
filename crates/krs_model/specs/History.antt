-- What a store may have gone through: lists of events, each a step from the state that the one before it left.
-- The form is this project's own.
use Rattle.std.specs.Prelude.{[], ◌∷◌, ◌≡◌, List, Result, ℕ}
use Rattle.krs_types.specs.declared.{ask.{Answer.Answer, Ask.Ask}, errno.Errno.Errno, event.Event.Event}
use Rattle.krs_model.specs.{State.State, Step.Step}

-- an ask of a client at a moment, and its reply
abbrev pub event_of : ℕ → ℕ → Ask → Result Answer Errno → Event
event_of client moment ask reply = record { lane = client; moment = moment; ask = ask; reply = reply }

-- these events lead from start to end, each by one step
unfoldable pub IsLegal : State → List Event → State → Type 0
IsLegal start [] end = start ≡ end
IsLegal start (event ∷ events) end = (next : State) × Step start event next × IsLegal next events end
