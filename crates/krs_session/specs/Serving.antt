-- What the parts of a session did: relations between where a connection stood before and where it stands after.
use Rattle.std.specs.Prelude.{[], ◌*◌, ◌++◌, ◌+◌, ◌-◌, ◌<◌, ◌≡◌, ◌≢◌, ◌≤◌, ◌⊎◌, length, List, None, Option, Some, ℕ}
use Rattle.krs_types.specs.declared.event.Event.{Event}
use Rattle.krs_store.specs.declared.told.Told.{Told, TheVariants.{Reply, Taken}}
use Rattle.krs_wire.specs.{Feeding.{fault_of, Feeds}, Frame.{bad, End, Frames, rest}, declared.framed.Framed.Framed}
use Rattle.krs_wire.specs.Reply.{reply_frame}
use Rattle.krs_session.specs.Events.{AllOfLane, asks_in, asks_of, moments_of, replies_of, session_text}
use Rattle.krs_session.specs.Session.{counted, Counts, counts_of, ServesBytes, TookFront}
use Rattle.krs_session.specs.declared.connection.Connection.{Connection}
use Rattle.krs_session.specs.declared.ended.Ended.{Ended, TheVariants.{Closed, Memory, Read, Turns, Wire, Write}}
use Rattle.krs_session.specs.declared.replies.Replies.{Replies}
use Rattle.krs_session.specs.declared.clock.Clock as clocks
use Rattle.krs_session.specs.declared.keeper.Keeper as keepers
use Rattle.krs_session.specs.declared.source_and_sink.Sink as sinks
use Rattle.krs_session.specs.declared.source_and_sink.Source as sources
use Rattle.krs_wire.specs.declared.fault.WireFault.TheVariants as faults

-- where a connection stands: its seat, its clock and its writing end
pub record Stand (S C W : Type 0) : Type 0 where
  pub seat : S
  pub clock : C
  pub writer : W

abbrev pub stand : {H W S D C G : Type 0} → Connection H W S D C G → Stand S C W
stand c = record { seat = c.seat.now; clock = c.clock.now; writer = c.writer.now }

-- its desk is ready for its seat, and one more failed write can be counted
abbrev pub MayServe : {H W S D C G : Type 0} → keepers.Ghosts D S H → sinks.Ghosts W → Connection H W S D C G → Type 0
MayServe keeper sink c =
    keeper.ready c.setting.now.desk.now c.seat.now × (sink.failures c.writer.now < 18446744073709551615)

-- The same connection, later: of one setting, over the same end, seat and clock. Its desk is ready for its seat, whose
-- asks are of the same lane.
pub record Stays {H W S D C G : Type 0} (keeper : keepers.Ghosts D S H) (old new : Connection H W S D C G)
    : Type 0 where
  pub setting : new.setting ≡ old.setting
  pub writer : new.writer.ghost_name ≡ old.writer.ghost_name
  pub seat : new.seat.ghost_name ≡ old.seat.ghost_name
  pub clock : new.clock.ghost_name ≡ old.clock.ghost_name
  pub held : new.held.ghost_name ≡ old.held.ghost_name
  pub ready : keeper.ready new.setting.now.desk.now new.seat.now
  pub lane : keeper.lane_of new.seat.now ≡ keeper.lane_of old.seat.now

-- the same, and its seat rests, unless something has ended the session
pub record RestsUnless {H W S D C G : Type 0} (keeper : keepers.Ghosts D S H) (old new : Connection H W S D C G)
    (stop : Option Ended) : Type 0 where
  pub stays : Stays keeper old new
  pub rested : stop ≡ None → keeper.rested new.seat.now

-- how its stream ends so far, and what it has told to be lacking, are as before
abbrev pub ReadsNothing : {H W S D C G : Type 0} → Connection H W S D C G → Connection H W S D C G → Type 0
ReadsNothing old new = (new.held.now.feed ≡ old.held.now.feed) × (new.held.now.lack ≡ old.held.now.lack)

-- no ask is made, no clock asked, and nothing read
pub record OnlyWrites {H W S D C G : Type 0} (keeper : keepers.Ghosts D S H) (old new : Connection H W S D C G)
    : Type 0 where
  pub led : keeper.leads old.seat.now [] new.seat.now
  pub clock : new.clock.now ≡ old.clock.now
  pub reads : ReadsNothing old new

-- the seat's new events: its lane's, at the clock's answers in order
pub record Asked {S D H C : Type 0} (keeper : keepers.Ghosts D S H) (timer : clocks.Ghosts C) (seat0 seat1 : S)
    (clock0 clock1 : C) (events : List Event) : Type 0 where
  pub led : keeper.leads seat0 events seat1
  pub moments : timer.ticked clock0 (moments_of events) clock1
  pub lanes : AllOfLane (keeper.lane_of seat0) events

-- a clock was asked anew in this state, and has answered
abbrev pub IsAskedAnew : {C : Type 0} → (C → ℕ → C → Type 0) → C → Type 0
IsAskedAnew {C} renewed clock = (moment : ℕ) × (later : C) × renewed clock moment later

-- What was written of a text: all of it, or its front where something stopped the writing. That is a write that failed,
-- which is counted, or want of memory.
abbrev pub Wrote : {W : Type 0} → sinks.Ghosts W → W → W → List ℕ → Option Ended → Type 0
Wrote sink old new text None = sink.took old text new × (sink.failures new ≡ sink.failures old)
Wrote sink old new text (Some Write) =
    TookFront (λ bytes. sink.took old bytes new) text × (sink.failures new ≡ sink.failures old + 1)
Wrote sink old new text (Some Memory) =
    TookFront (λ bytes. sink.took old bytes new) text × (sink.failures new ≡ sink.failures old)
Wrote sink old new text (Some Closed) = ⊥
Wrote sink old new text (Some (Wire fault)) = ⊥
Wrote sink old new text (Some Read) = ⊥
Wrote sink old new text (Some Turns) = ⊥

-- What was written of a text, and what of it is held to be written later: it is all one or the other, unless something
-- stopped the writing.
abbrev pub Pending : {W : Type 0} → sinks.Ghosts W → W → W → List ℕ → List ℕ → Option Ended → Type 0
Pending sink old new held text None = (front : List ℕ) × (front ++ held ≡ text) × Wrote sink old new front None
Pending sink old new held text (Some stop) = Wrote sink old new text (Some stop)

-- one more text behind what was held, where nothing stopped the writing before
abbrev pub PendingNext : {W : Type 0} → sinks.Ghosts W → W → W → List ℕ → List ℕ → List ℕ → Option Ended
    → Option Ended → Type 0
PendingNext sink old new held0 held1 text None result = Pending sink old new held1 (held0 ++ text) result
PendingNext sink old new held0 held1 text (Some stop) result = (new ≡ old) × (held1 ≡ held0) × (result ≡ Some stop)

-- a reply is held or written, where nothing stopped the writing before; of one that is held already nothing is
abbrev pub TellsNext : {W : Type 0} → sinks.Ghosts W → W → W → Replies → Replies → Option ℕ → Told → Option Ended
    → Option Ended → Type 0
TellsNext sink old new out0 out1 tag (Reply reply) stop result =
    PendingNext sink old new out0.bytes.items out1.bytes.items (reply_frame tag reply) stop result
TellsNext sink old new out0 out1 tag (Taken bytes) stop result =
    (new ≡ old) × (out1.bytes.items ≡ out0.bytes.items) × (result ≡ stop)

-- the asks of these frames were made, and the replies were written
pub record AsksAndWrites {S D H C W : Type 0} (keeper : keepers.Ghosts D S H) (timer : clocks.Ghosts C)
    (sink : sinks.Ghosts W) (old new : Stand S C W) (frames : List Framed) (stop : Option Ended) : Type 0 where
  pub events : List Event
  pub order : asks_of events ≡ asks_in frames
  pub asked : Asked keeper timer old.seat new.seat old.clock new.clock events
  pub wrote : Wrote sink old.writer new.writer (session_text frames (replies_of events)) stop

-- the asks of these frames were made, and this is held of the text of the replies
pub record AsksAndHolds {S D H C W : Type 0} (keeper : keepers.Ghosts D S H) (timer : clocks.Ghosts C)
    (sink : sinks.Ghosts W) (old new : Stand S C W) (held : List ℕ) (frames : List Framed) (stop : Option Ended)
    : Type 0 where
  pub events : List Event
  pub order : asks_of events ≡ asks_in frames
  pub asked : Asked keeper timer old.seat new.seat old.clock new.clock events
  pub pending : Pending sink old.writer new.writer held (session_text frames (replies_of events)) stop

-- for every stream that ended so, with this piece behind it: these frames come next, and maybe more
abbrev pub FeedsMore : End → List ℕ → List Framed → Type 0
FeedsMore (rest left) piece frames =
    (before : List ℕ) (earlier : List Framed) → Frames before earlier (rest left)
    → (more : List Framed) × (end : End) × Frames (before ++ piece) ((earlier ++ frames) ++ more) end
FeedsMore (bad fault) piece frames = ⊥

-- what a piece of the stream led to: which frames were asked of it, and how much of their text was written, by what
-- ended the session there
abbrev pub PieceServes : {W : Type 0} → (W → List ℕ → W → Type 0) → W → W → End → End → List ℕ → List Framed → List ℕ
    → Option Ended → Type 0
PieceServes took writer0 writer1 feed0 feed1 piece frames text None =
    Feeds feed0 piece frames feed1 × (fault_of feed1 ≡ None) × took writer0 text writer1
PieceServes took writer0 writer1 feed0 feed1 piece frames text (Some (Wire fault)) =
    Feeds feed0 piece frames (bad fault) × took writer0 text writer1
PieceServes took writer0 writer1 feed0 feed1 piece frames text (Some Write) =
    Feeds feed0 piece frames feed1 × TookFront (λ bytes. took writer0 bytes writer1) text
PieceServes took writer0 writer1 feed0 feed1 piece frames text (Some Memory) =
    (Feeds feed0 piece frames feed1 × TookFront (λ bytes. took writer0 bytes writer1) text)
    ⊎ (FeedsMore feed0 piece frames × took writer0 text writer1)
PieceServes took writer0 writer1 feed0 feed1 piece frames text (Some Closed) =
    (piece ≡ []) × (frames ≡ []) × took writer0 text writer1
PieceServes took writer0 writer1 feed0 feed1 piece frames text (Some Read) =
    (piece ≡ []) × (frames ≡ []) × took writer0 text writer1
PieceServes took writer0 writer1 feed0 feed1 piece frames text (Some Turns) = ⊥

-- a piece was cut, its frames were asked, and the replies were written
pub record Served {S D H C W : Type 0} (keeper : keepers.Ghosts D S H) (timer : clocks.Ghosts C)
    (sink : sinks.Ghosts W) (old new : Stand S C W) (feed0 feed1 : End) (piece : List ℕ) (stop : Option Ended)
    : Type 0 where
  pub frames : List Framed
  pub events : List Event
  pub order : asks_of events ≡ asks_in frames
  pub asked : Asked keeper timer old.seat new.seat old.clock new.clock events
  pub served : PieceServes sink.took old.writer new.writer feed0 feed1 piece frames
      (session_text frames (replies_of events)) stop

-- what ends a piece, by the count of failed writes; a fault of the stream is never Memory
abbrev pub PieceEndsBy : ℕ → ℕ → Option Ended → Type 0
PieceEndsBy old new None = new ≡ old
PieceEndsBy old new (Some Write) = new ≡ old + 1
PieceEndsBy old new (Some Memory) = new ≡ old
PieceEndsBy old new (Some (Wire fault)) = (new ≡ old) × (fault ≢ faults.Memory)
PieceEndsBy old new (Some Closed) = ⊥
PieceEndsBy old new (Some Read) = ⊥
PieceEndsBy old new (Some Turns) = ⊥

-- what ends a turn, by what the ends had counted before it and after it: beside reads just that
abbrev pub TurnEndsBy : Counts → Counts → Option Ended → Type 0
TurnEndsBy before after None = after ≡ record before { reads = after.reads }
TurnEndsBy before after (Some ended) =
    (after ≡ record (counted before ended) { reads = after.reads }) × (ended ≢ Turns) × (ended ≢ Wire faults.Memory)

-- what the ends of a connection have counted
abbrev pub counts_at : {H R W S D C G : Type 0} → sources.Ghosts R → sinks.Ghosts W → R → Connection H W S D C G
    → Counts
counts_at source sink reader c =
    counts_of source.reads source.empties source.failures sink.failures reader c.writer.now

-- a whole session but for its LEAVE; a read gives at most 4096 bytes
pub record Finished {R S D H C W : Type 0} (source : sources.Ghosts R) (keeper : keepers.Ghosts D S H)
    (timer : clocks.Ghosts C) (sink : sinks.Ghosts W) (reader0 reader1 : R) (old new : Stand S C W) (ended : Ended)
    : Type 0 where
  pub bytes : List ℕ
  pub frames : List Framed
  pub events : List Event
  pub read : source.gave reader0 bytes reader1
  pub size : length bytes ≤ 4096 * (source.reads reader1 - source.reads reader0)
  pub order : asks_of events ≡ asks_in frames
  pub asked : Asked keeper timer old.seat new.seat old.clock new.clock events
  pub served : ServesBytes (λ text. sink.took old.writer text new.writer) bytes frames
      (session_text frames (replies_of events)) ended
