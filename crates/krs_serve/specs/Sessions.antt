-- What many sessions at once did, each on a seat of its own.
use Rattle.std.specs.Prelude.{◌+◌, ◌-◌, ◌≢◌, ◌≤◌, List, ℕ}
use Rattle.krs_types.specs.declared.event.Event.{Event}
use Rattle.krs_desk.specs.Sitting.{Sitting}
use Rattle.krs_wire.specs.declared.fault.WireFault.TheVariants.{Memory}
use Rattle.krs_session.specs.{Calls.MakesCalls, Session.{Counts, counts_of, EndsBy, Session}}
use Rattle.krs_session.specs.declared.ended.Ended.{Ended, TheVariants.Wire}
use Rattle.krs_serve.specs.declared.entry.Entry.{Entry}
use Rattle.krs_session.specs.declared.clock.Clock as clocks
use Rattle.krs_session.specs.declared.source_and_sink.Sink as sinks
use Rattle.krs_session.specs.declared.source_and_sink.Source as sources

-- two ends and a clock
abbrev pub entry : {R W C : Type 0} → R → W → C → Entry R W C
entry reader writer clock = record { reader = reader; writer = writer; clock = clock }

-- what the ends of a connection have counted
abbrev pub ends_count : {R W : Type 0} → sources.Ghosts R → sinks.Ghosts W → R → W → Counts
ends_count source sink reader writer =
    counts_of source.reads source.empties source.failures sink.failures reader writer

-- From this reader, writer and clock and this seat a session of so many reads at most ended so, and left the last seat,
-- whatever it left of the others. Its events are what its frames ask, in order, and then LEAVE. Why it ended is what
-- its ends counted. What readers, clocks and writers show is told by their types, and what leads from seat to seat is
-- given.
pub record ServesEntry {R C W S : Type 0} (source : sources.Ghosts R) (timer : clocks.Ghosts C) (sink : sinks.Ghosts W)
    (leads : S → List Event → S → Type 0) (lane_of : S → ℕ) (turns : ℕ) (connection : Entry R W C) (seat last_seat : S)
    (ended : Ended) : Type 0 where
  pub last : Entry R W C
  pub session : Session (λ bytes. source.gave connection.reader bytes last.reader)
      (λ events. leads seat events last_seat) (λ moments. timer.ticked connection.clock moments last.clock)
      (λ text. sink.took connection.writer text last.writer)
      (lane_of seat) (source.reads last.reader - source.reads connection.reader) ended
  pub count : EndsBy turns (ends_count source sink connection.reader connection.writer)
      (ends_count source sink last.reader last.writer) ended
  pub bounded : source.reads last.reader ≤ source.reads connection.reader + turns
  pub not_wire : ended ≢ Wire Memory

-- the same at a seat of a desk
abbrev pub ServesAtDesk : {R C W : Type 0} → sources.Ghosts R → clocks.Ghosts C → sinks.Ghosts W → ℕ → Entry R W C
    → Sitting → Sitting → Ended → Type 0
ServesAtDesk source timer sink turns connection seat last_seat ended =
    ServesEntry source timer sink MakesCalls (λ s. s.part.lane) turns connection seat last_seat ended
