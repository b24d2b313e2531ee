-- What a whole session did: docs/FORMAT.md, "A connection".
use Rattle.std.specs.Prelude.{[], ◌*◌, ◌++◌, ◌+◌, ◌<◌, ◌^◌, ◌∷◌, ◌≡◌, ◌≤◌, ◌⊎◌, length, List, ℕ}
use Rattle.krs_types.specs.declared.{ask.{Ask.Ask, Op.TheVariants.Leave}, event.Event.Event}
use Rattle.krs_model.specs.Lists.{Begins}
use Rattle.krs_wire.specs.{Frame.{bad, End, Frames, rest}, declared.framed.Framed.Framed}
use Rattle.krs_session.specs.Events.{AllOfLane, asks_in, asks_of, moments_of, replies_of, session_text}
use Rattle.krs_session.specs.declared.ended.Ended.{Ended, TheVariants.{Closed, Memory, Read, Turns, Wire, Write}}

-- the bytes are cut into these frames, and a rest or a fault
abbrev pub AreAll : List ℕ → List Framed → Type 0
AreAll bytes frames = (end : End) × Frames bytes frames end

-- the bytes are cut into these frames and more
abbrev pub AreFirst : List ℕ → List Framed → Type 0
AreFirst bytes frames = (more : List Framed) × AreAll bytes (frames ++ more)

-- no fault stands behind these frames
abbrev pub AreWhole : List ℕ → List Framed → Type 0
AreWhole bytes frames = (left : List ℕ) × Frames bytes frames (rest left)

-- the front of a text was written
abbrev pub TookFront : (List ℕ → Type 0) → List ℕ → Type 0
TookFront took text = (front : List ℕ) × Begins front text × took front

-- Which frames were asked of those in the bytes read, and how much of their replies' text was written, by what ended
-- the session: all of both, but where a write failed, or memory was refused. Refused for a reply it ends the writing,
-- and refused to the feed it ends the cut.
abbrev pub ServesBytes : (List ℕ → Type 0) → List ℕ → List Framed → List ℕ → Ended → Type 0
ServesBytes took bytes frames text Closed = AreWhole bytes frames × took text
ServesBytes took bytes frames text Read = AreWhole bytes frames × took text
ServesBytes took bytes frames text Turns = AreWhole bytes frames × took text
ServesBytes took bytes frames text (Wire fault) = Frames bytes frames (bad fault) × took text
ServesBytes took bytes frames text Write = AreAll bytes frames × TookFront took text
ServesBytes took bytes frames text Memory =
    (AreAll bytes frames × TookFront took text) ⊎ (AreFirst bytes frames × took text)

-- what is asked last; it looks at no context
abbrev pub leave : Ask
leave = record { context = 0; op = Leave }

-- A session over ends, a seat and a clock: `gave` and `took` say which bytes were given and taken, `led` which events
-- lead from the seat before to the seat after, `ticked` what the clock answered. The events are the asks of the
-- frames in the bytes given, in order, and then LEAVE; their moments are the clock's answers; what was taken is the
-- frames of their replies, without that of LEAVE. A read gives at most 4096 bytes.
pub record Session (gave : List ℕ → Type 0) (led : List Event → Type 0) (ticked : List ℕ → Type 0)
    (took : List ℕ → Type 0) (lane reads : ℕ) (ended : Ended) : Type 0 where
  pub bytes : List ℕ
  pub frames : List Framed
  pub events : List Event
  pub last : Event
  pub read : gave bytes
  pub size : length bytes ≤ 4096 * reads
  pub asked : led (events ++ last ∷ [])
  pub moments : ticked (moments_of (events ++ last ∷ []))
  pub lanes : AllOfLane lane (events ++ last ∷ [])
  pub order : asks_of events ≡ asks_in frames
  pub leave : last.ask ≡ leave
  pub served : ServesBytes took bytes frames (session_text frames (replies_of events)) ended

-- what the ends of a connection have counted: reads into room, those of them that gave no bytes, reads that failed,
-- and writes that failed or took none of a piece that isn't empty
pub record Counts : Type 0 where
  pub reads : ℕ
  pub empties : ℕ
  pub failed_reads : ℕ
  pub failed_writes : ℕ

-- what a reader and a writer have counted
abbrev pub counts_of : {R W : Type 0} → (R → ℕ) → (R → ℕ) → (R → ℕ) → (W → ℕ) → R → W → Counts
counts_of reads empties failed_reads failed_writes reader writer = record {
  reads = reads reader;
  empties = empties reader;
  failed_reads = failed_reads reader;
  failed_writes = failed_writes writer;
}

-- There is room in the counts for a session of so many turns: for a read each, and for one more of each other count.
abbrev pub HaveRoom : ℕ → Counts → Type 0
HaveRoom turns counts =
    (counts.reads + turns < 2 ^ 64) × (counts.empties < 18446744073709551615)
    × (counts.failed_reads < 18446744073709551615) × (counts.failed_writes < 18446744073709551615)

-- what is counted beside reads where a session ends so: what ended it, where its ends did
abbrev pub counted : Counts → Ended → Counts
counted before Closed = record before { empties = before.empties + 1 }
counted before Read = record before { failed_reads = before.failed_reads + 1 }
counted before Write = record before { failed_writes = before.failed_writes + 1 }
counted before Memory = before
counted before Turns = before
counted before (Wire fault) = before

-- Why a session ended, by what its ends had counted before it and after it: beside reads just what ended it, and all
-- turns where these are over.
pub record EndsBy (turns : ℕ) (before after : Counts) (ended : Ended) : Type 0 where
  pub only : after ≡ record (counted before ended) { reads = after.reads }
  pub over : ended ≡ Turns → after.reads ≡ before.reads + turns
