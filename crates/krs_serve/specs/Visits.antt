-- What was asked on a seat of the daemon: what one connection after another asked. The form is this project's own.
use Rattle.std.specs.Prelude.{[], ⊤, ◌-◌, ◌≡◌, All, flat_map, List, ℕ}
use Rattle.krs_types.specs.declared.event.Event.{Event}
use Rattle.krs_world.specs.Knowing.{events_of}
use Rattle.krs_desk.specs.Sitting.{Sitting}
use Rattle.krs_session.specs.{Session.{EndsBy, Session}, declared.ended.Ended.Ended}
use Rattle.krs_serve.specs.Sessions.{ends_count}
use Rattle.krs_session.specs.declared.source_and_sink.Sink as sinks
use Rattle.krs_session.specs.declared.source_and_sink.Source as sources

-- One connection, from bytes to bytes: a session from its reader to its writer (`Session` of krs_session) that made
-- these calls. They are what its frames ask, in order, and then LEAVE. What readers and writers show is told by their
-- types. Of a clock nothing is said here: each connection has its own.
pub record Visit {R W : Type 0} (source : sources.Ghosts R) (sink : sinks.Ghosts W) (turns lane : ℕ)
    (calls : List Event) : Type 0 where
  pub reader : R
  pub writer : W
  pub last_reader : R
  pub last_writer : W
  pub ended : Ended
  pub session : Session (λ bytes. source.gave reader bytes last_reader) (λ made. made ≡ calls) (λ moments. ⊤)
      (λ text. sink.took writer text last_writer) lane (source.reads last_reader - source.reads reader) ended
  pub count : EndsBy turns (ends_count source sink reader writer) (ends_count source sink last_reader last_writer) ended

-- the calls of the seat are those of so many connections, one behind another, and no others
pub record IsVisited {R W : Type 0} (source : sources.Ghosts R) (sink : sinks.Ghosts W) (turns : ℕ) (seat : Sitting)
    : Type 0 where
  pub visits : List (List Event)
  pub each : All (Visit source sink turns seat.part.lane) visits
  pub mine : seat.part.mine ≡ flat_map (λ calls. calls) visits

-- what the seat has seen has just its own calls of its lane
abbrev pub HasJustItsCalls : Sitting → Type 0
HasJustItsCalls s = events_of s.part.lane s.part.seen ≡ s.part.mine

-- nothing was asked on the seat, and it has seen nothing
abbrev pub IsNew : Sitting → Type 0
IsNew s = (s.part.mine ≡ []) × (s.part.seen ≡ [])
