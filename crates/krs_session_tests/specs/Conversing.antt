-- What the tests say of a session: which bytes its ends gave and took, and which seconds its clock answered.
use Rattle.std.specs.Prelude.{[], ◌++◌, ◌∷◌, ◌≡◌, List, ℕ}
use Rattle.krs_types.specs.declared.event.Event.{Event}
use Rattle.krs_wire.specs.declared.framed.Framed.{Framed}
use Rattle.krs_session.specs.{Events.{asks_in, asks_of, moments_of, replies_of, session_text}, Session.AreWhole}
use Rattle.krs_session_tests.specs.Ticks.{Ticks}

-- A session that was closed, from second 100 on: a front of the input is cut into frames, the events are what these
-- ask and a last one, at one second each, and the output is the replies to the frames alone.
pub record Conversed (input output : List ℕ) (events : List Event) (last : Event) : Type 0 where
  pub front : List ℕ
  pub left : List ℕ
  pub frames : List Framed
  pub end : ℕ
  pub given : input ≡ front ++ left
  pub whole : AreWhole front frames
  pub order : asks_of events ≡ asks_in frames
  pub moments : Ticks 100 (moments_of (events ++ last ∷ [])) end
  pub taken : output ≡ session_text frames (replies_of events)
