-- That the connections of a desk's seats stand in one history, from bytes to bytes. The claim is `ServeInOneHistory`;
-- the other definitions say how seats that meet come to know of it. The form is this project's own.
use Rattle.std.specs.{Prelude.{◌≡◌, All, List, ℕ}, List.AllZip}
use Rattle.krs_types.specs.declared.event.Event.{Event}
use Rattle.krs_model.specs.{History.IsLegal, Lists.Begins, State.{starting_at, State}}
use Rattle.krs_world.specs.Knowing.{events_of}
use Rattle.krs_desk.specs.{Seen.IsOneHistory, Sitting.Sitting}
use Rattle.krs_serve.specs.Visits.{HasJustItsCalls, IsVisited}
use Rattle.krs_session.specs.declared.source_and_sink.Sink as sinks
use Rattle.krs_session.specs.declared.source_and_sink.Source as sources

-- There is one legal history from the empty store. Of each of these seats it has just the calls, in order, and those
-- are the calls of one connection after another, each from the bytes of some reader to those that some writer took. It
-- may have calls of other lanes, too; that there are none follows from `accept_all` (`seats`) and `opened` (`wide`).
pub record ServeInOneHistory {R W : Type 0} (source : sources.Ghosts R) (sink : sinks.Ghosts W) (turns : ℕ)
    (seats : List Sitting) : Type 0 where
  pub log : List Event
  pub last : State
  pub legal : IsLegal (starting_at 3) log last
  pub each : All (λ seat. (events_of seat.part.lane log ≡ seat.part.mine)
      × ∥ IsVisited source sink turns seat ∥₁) seats

-- from one seat to another more was seen, and nothing else has changed: no call was made
pub record SeesMore (s t : Sitting) : Type 0 where
  pub table : t.table ≡ s.table
  pub opening : t.opening ≡ s.opening
  pub lane : t.part.lane ≡ s.part.lane
  pub mine : t.part.mine ≡ s.part.mine
  pub flight : t.part.flight ≡ s.part.flight
  pub seen : Begins s.part.seen t.part.seen

-- The other seat met the first on its way from s to t. It has then seen all that s had seen, and t has seen all that it
-- has seen.
pub record HasMet (s other t met : Sitting) : Type 0 where
  pub more : SeesMore other met
  pub opening : met.opening ≡ s.opening
  pub after : Begins s.part.seen met.part.seen
  pub before : Begins met.part.seen t.part.seen
  pub own : HasJustItsCalls met

-- the first met each of these, on its way from s to t
pub record MeetsEach (s : Sitting) (others : List Sitting) (t : Sitting) (met : List Sitting) : Type 0 where
  pub first : SeesMore s t
  pub own : HasJustItsCalls t
  pub history : IsOneHistory t.opening t.part.seen
  pub each : AllZip (λ o m. HasMet s o t m) others met

-- the calls of the seat at s, and no others of its lane, stand in this history, which begins with all that it had seen;
-- at t it has seen more
pub record StandsIn (start : State) (log : List Event) (s t : Sitting) : Type 0 where
  pub opening : s.opening ≡ start
  pub seen : Begins s.part.seen log
  pub calls : events_of s.part.lane log ≡ s.part.mine
  pub more : SeesMore s t

-- there is one legal history that has the calls of each of these seats
pub record HaveOneHistory (start : State) (seats later : List Sitting) : Type 0 where
  pub log : List Event
  pub last : State
  pub legal : IsLegal start log last
  pub each : AllZip (λ s t. StandsIn start log s t) seats later
