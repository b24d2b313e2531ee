-- How pieces and turns join into a session.
use Rattle.std.proofs.Common.{[], ◌*◌, ◌++◌, ◌+◌, ◌-◌, ◌∙◌, ◌≡◌, ◌≤◌, ap, append-nil, arith, inl, inr, length}
use Rattle.std.proofs.Common.{length-append, List, None, refl, Some, subst, sym, ℕ}
use Rattle.krs_types.specs.declared.event.Event.{Event}
use Rattle.krs_wire.specs.Feeding.{fault_of, Feeds, Refuses}
use Rattle.krs_wire.specs.{Frame.{bad, End, Frames, rest}, declared.{fault.WireFault.WireFault, framed.Framed.Framed}}
use Rattle.krs_session.specs.Events.{asks_in, asks_of, replies_of, session_text}
use Rattle.krs_session.specs.Serving.{Asked, FeedsMore, Finished, PieceEndsBy, PieceServes, Served, Stand}
use Rattle.krs_session.specs.{Serving.{TurnEndsBy, Wrote}, Session.{AreFirst, counted, Counts, EndsBy, ServesBytes}}
use Rattle.krs_session.specs.declared.ended.Ended.{Ended, TheVariants.{Closed, Memory, Read, Turns, Wire, Write}}
use Rattle.krs_session.proofs.JoinLemmas.{asked_joins, front_joins, Joins, order_joins, text_joins}
use Rattle.krs_session.specs.declared.clock.Clock as clocks
use Rattle.krs_session.specs.declared.keeper.Keeper as keepers
use Rattle.krs_session.specs.declared.source_and_sink.Sink as sinks
use Rattle.krs_session.specs.declared.source_and_sink.Source as sources
use Rattle.krs_wire.specs.declared.fault.WireFault.TheVariants as faults

pub refused_more : (old : End) (piece : List ℕ) (fault : WireFault) → fault_of old ≡ None → Refuses old piece fault
    → FeedsMore old piece []
refused_more (rest left) piece fault n r = λ before earlier h.
    let x = r.1 before earlier h in
    (x.0, x.1, subst (λ (a : List Framed). Frames (before ++ piece) (a ++ x.0) x.1) (sym (append-nil earlier)) x.2)
refused_more (bad f) piece fault n r = absurd cc

pub refused_fault : (old : End) (piece : List ℕ) (fault : WireFault) → fault_of old ≡ None
    → (fault ≡ faults.Memory → ⊥) → Refuses old piece fault → Feeds old piece [] (bad fault)
refused_fault (rest left) piece fault n other r = r.0 other
refused_fault (bad f) piece fault n other r = absurd cc

-- what a piece led to where something stopped the writing, and what has ended it
pub stopped_serves : {W : Type 0} (sink : sinks.Ghosts W) (w0 w1 : W) (f0 f1 : End) (piece : List ℕ)
    (frames : List Framed) (text : List ℕ) (stop : Ended) → Feeds f0 piece frames f1
    → Wrote sink w0 w1 text (Some stop) → PieceServes sink.took w0 w1 f0 f1 piece frames text (Some stop)
stopped_serves sink w0 w1 f0 f1 piece frames text Write fed wrote = (fed, wrote.0)
stopped_serves sink w0 w1 f0 f1 piece frames text Memory fed wrote = inl (fed, wrote.0)
stopped_serves sink w0 w1 f0 f1 piece frames text Closed fed wrote = absurd wrote
stopped_serves sink w0 w1 f0 f1 piece frames text (Wire fault) fed wrote = absurd wrote
stopped_serves sink w0 w1 f0 f1 piece frames text Read fed wrote = absurd wrote
stopped_serves sink w0 w1 f0 f1 piece frames text Turns fed wrote = absurd wrote

pub stopped_ends : {W : Type 0} (sink : sinks.Ghosts W) (w0 w1 : W) (text : List ℕ) (stop : Ended)
    → Wrote sink w0 w1 text (Some stop) → PieceEndsBy (sink.failures w0) (sink.failures w1) (Some stop)
stopped_ends sink w0 w1 text Write wrote = wrote.1
stopped_ends sink w0 w1 text Memory wrote = wrote.1
stopped_ends sink w0 w1 text Closed wrote = absurd wrote
stopped_ends sink w0 w1 text (Wire fault) wrote = absurd wrote
stopped_ends sink w0 w1 text Read wrote = absurd wrote
stopped_ends sink w0 w1 text Turns wrote = absurd wrote

-- what is counted as a session ends is so whatever number of reads came before
counted_on : (first before : Counts) (reads : ℕ) (ended : Ended) → before ≡ record first { reads = before.reads }
    → record (counted before ended) { reads = reads } ≡ record (counted first ended) { reads = reads }
counted_on first before reads Closed same = ap (λ (c : Counts). record (counted c Closed) { reads = reads }) same
counted_on first before reads Read same = ap (λ (c : Counts). record (counted c Read) { reads = reads }) same
counted_on first before reads Write same = ap (λ (c : Counts). record (counted c Write) { reads = reads }) same
counted_on first before reads Memory same = ap (λ (c : Counts). record c { reads = reads }) same
counted_on first before reads Turns same = ap (λ (c : Counts). record c { reads = reads }) same
counted_on first before reads (Wire fault) same = ap (λ (c : Counts). record c { reads = reads }) same

-- what ends a turn ends the session, where beside reads nothing was counted before it
pub turn_ends : (turns : ℕ) (first before after : Counts) (ended : Ended) → TurnEndsBy before after (Some ended)
    → before.empties ≡ first.empties → before.failed_reads ≡ first.failed_reads
    → before.failed_writes ≡ first.failed_writes → EndsBy turns first after ended
turn_ends turns first before after ended by empties reads writes = record {
  only = by.0 ∙ counted_on first before after.reads ended (λ i. record {
    reads = before.reads;
    empties = empties i;
    failed_reads = reads i;
    failed_writes = writes i;
  });
  over = λ is. absurd (by.1 is);
}

fault_behind : (f : End) (fault : WireFault) → fault_of f ≡ Some fault → f ≡ bad fault
fault_behind (rest left) fault is = absurd cc
fault_behind (bad other) fault is = cc

-- the frames of a piece with a fault behind them
pub faulty_feeds : (f0 f1 : End) (piece : List ℕ) (frames : List Framed) (fault : WireFault)
    → fault_of f1 ≡ Some fault → Feeds f0 piece frames f1 → Feeds f0 piece frames (bad fault)
faulty_feeds f0 f1 piece frames fault is fed =
    subst (λ (f : End). Feeds f0 piece frames f) (fault_behind f1 fault is) fed

-- the session so far, where nothing has ended it
pub record SoFar {R S D H C W : Type 0} (source : sources.Ghosts R) (keeper : keepers.Ghosts D S H)
    (timer : clocks.Ghosts C) (sink : sinks.Ghosts W) (made : ℕ) (r0 r1 : R) (a b : Stand S C W) (f1 : End)
    : Type 0 where
  pub bytes : List ℕ
  pub frames : List Framed
  pub events : List Event
  pub read : source.gave r0 bytes r1
  pub size : length bytes ≤ 4096 * made
  pub order : asks_of events ≡ asks_in frames
  pub asked : Asked keeper timer a.seat b.seat a.clock b.clock events
  pub cut : Frames bytes frames f1
  pub wrote : sink.took a.writer (session_text frames (replies_of events)) b.writer

fed_on : (f0 f1 : End) (bytes piece : List ℕ) (frames more : List Framed) → fault_of f0 ≡ None
    → Frames bytes frames f0 → Feeds f0 piece more f1 → Frames (bytes ++ piece) (frames ++ more) f1
fed_on (bad f) f1 bytes piece frames more n h fed = absurd cc
fed_on (rest left) f1 bytes piece frames more n h fed = fed bytes frames h

fed_first : (f0 : End) (bytes piece : List ℕ) (frames more : List Framed) → fault_of f0 ≡ None
    → Frames bytes frames f0 → FeedsMore f0 piece more
    → AreFirst (bytes ++ piece) (frames ++ more)
fed_first (bad f) bytes piece frames more n h fed = absurd cc
fed_first (rest left) bytes piece frames more n h fed = let x = fed bytes frames h in (x.0, (x.1, x.2))

whole_cut : (f1 : End) (bytes : List ℕ) (frames : List Framed) → fault_of f1 ≡ None → Frames bytes frames f1
    → (left : List ℕ) × Frames bytes frames (rest left)
whole_cut (rest left) bytes frames n h = (left, h)
whole_cut (bad f) bytes frames n h = absurd cc

unread_cut : (f0 : End) (bytes piece : List ℕ) (frames more : List Framed) → fault_of f0 ≡ None
    → Frames bytes frames f0 → piece ≡ [] → more ≡ [] → (left : List ℕ)
    × Frames (bytes ++ piece) (frames ++ more) (rest left)
unread_cut f0 bytes piece frames more n h no-piece no-more =
    let w = whole_cut f0 bytes frames n h in (
      w.0,
      subst (λ (p : List ℕ). Frames (bytes ++ p) (frames ++ more) (rest w.0)) (sym no-piece)
          (subst (λ (m : List Framed). Frames (bytes ++ []) (frames ++ m) (rest w.0)) (sym no-more)
          (rw (append-nil bytes, append-nil frames) w.1)),
    )

-- what a session served before a piece and with it, where it ends there
module _ {W : Type 0} (took : W → List ℕ → W → Type 0) (joins : Joins took) where
  piece_ends : (w0 w1 w2 : W) (f0 f1 : End) (bytes piece : List ℕ) (frames more : List Framed) (xs ys : List ℕ)
      (ended : Ended) → fault_of f0 ≡ None → Frames bytes frames f0 → took w0 xs w1
      → PieceServes took w1 w2 f0 f1 piece more ys (Some ended)
      → ServesBytes (λ text. took w0 text w2) (bytes ++ piece) (frames ++ more) (xs ++ ys) ended
  piece_ends w0 w1 w2 f0 f1 bytes piece frames more xs ys (Wire fault) n h t p =
      (fed_on f0 (bad fault) bytes piece frames more n h p.0, joins w0 w1 w2 xs ys t p.1)
  piece_ends w0 w1 w2 f0 f1 bytes piece frames more xs ys Write n h t p =
      ((f1, fed_on f0 f1 bytes piece frames more n h p.0), front_joins took joins w0 w1 w2 xs ys t p.1)
  piece_ends w0 w1 w2 f0 f1 bytes piece frames more xs ys Memory n h t (inl p) =
      inl ((f1, fed_on f0 f1 bytes piece frames more n h p.0), front_joins took joins w0 w1 w2 xs ys t p.1)
  piece_ends w0 w1 w2 f0 f1 bytes piece frames more xs ys Memory n h t (inr p) =
      inr (fed_first f0 bytes piece frames more n h p.0, joins w0 w1 w2 xs ys t p.1)
  piece_ends w0 w1 w2 f0 f1 bytes piece frames more xs ys Closed n h t p =
      (unread_cut f0 bytes piece frames more n h p.0 p.1, joins w0 w1 w2 xs ys t p.2)
  piece_ends w0 w1 w2 f0 f1 bytes piece frames more xs ys Read n h t p =
      (unread_cut f0 bytes piece frames more n h p.0 p.1, joins w0 w1 w2 xs ys t p.2)
  piece_ends w0 w1 w2 f0 f1 bytes piece frames more xs ys Turns n h t p = absurd p

module _ {R S D H C W : Type 0} (source : sources.Ghosts R) (keeper : keepers.Ghosts D S H)
    (timer : clocks.Ghosts C) (sink : sinks.Ghosts W) (gives : Joins source.gave) (led : Joins keeper.leads)
    (ticks : Joins timer.ticked) (takes : Joins sink.took) where
  pub so_far_more : (made : ℕ) (r0 r1 r2 : R) (a b c : Stand S C W) (f1 f2 : End) (piece : List ℕ)
      → fault_of f1 ≡ None → SoFar source keeper timer sink made r0 r1 a b f1 → source.gave r1 piece r2
      → length piece ≤ 4096 → keeper.lane_of b.seat ≡ keeper.lane_of a.seat
      → Served keeper timer sink b c f1 f2 piece None → SoFar source keeper timer sink (made + 1) r0 r2 a c f2
  so_far_more made r0 r1 r2 a b c f1 f2 piece n so_far g small lane more =
      record {
        bytes = so_far.bytes ++ piece;
        frames = so_far.frames ++ more.frames;
        events = so_far.events ++ more.events;
        read = gives r0 r1 r2 so_far.bytes piece so_far.read g;
        size = omega (arith, so_far.size, length-append so_far.bytes piece);
        order = order_joins so_far.events more.events so_far.frames more.frames so_far.order more.order;
        asked = asked_joins keeper timer a.seat b.seat c.seat a.clock b.clock c.clock so_far.events more.events led
            ticks lane so_far.asked more.asked;
        cut = fed_on f1 f2 so_far.bytes piece so_far.frames more.frames n so_far.cut more.served.0;
        wrote = subst (λ (x : List ℕ). sink.took a.writer x c.writer)
            (sym (text_joins so_far.frames more.frames so_far.events more.events so_far.order))
            (takes a.writer b.writer c.writer (session_text so_far.frames (replies_of so_far.events))
            (session_text more.frames (replies_of more.events)) so_far.wrote more.served.2);
      }

  pub so_far_ends : (made : ℕ) (r0 r1 r2 : R) (a b c : Stand S C W) (f1 f2 : End) (piece : List ℕ) (ended : Ended)
      → fault_of f1 ≡ None → SoFar source keeper timer sink made r0 r1 a b f1 → source.gave r1 piece r2
      → length piece ≤ 4096 → source.reads r2 - source.reads r0 ≡ made + 1
      → keeper.lane_of b.seat ≡ keeper.lane_of a.seat
      → Served keeper timer sink b c f1 f2 piece (Some ended) → Finished source keeper timer sink r0 r2 a c ended
  so_far_ends made r0 r1 r2 a b c f1 f2 piece ended n so_far g small all lane more =
      record {
        bytes = so_far.bytes ++ piece;
        frames = so_far.frames ++ more.frames;
        events = so_far.events ++ more.events;
        read = gives r0 r1 r2 so_far.bytes piece so_far.read g;
        size = omega (arith, so_far.size, length-append so_far.bytes piece);
        order = order_joins so_far.events more.events so_far.frames more.frames so_far.order more.order;
        asked = asked_joins keeper timer a.seat b.seat c.seat a.clock b.clock c.clock so_far.events more.events led
            ticks lane so_far.asked more.asked;
        served = subst (λ (x : List ℕ). ServesBytes (λ text. sink.took a.writer text c.writer) (so_far.bytes ++ piece)
            (so_far.frames ++ more.frames) x ended)
            (sym (text_joins so_far.frames more.frames so_far.events more.events so_far.order))
            (piece_ends sink.took takes a.writer b.writer c.writer f1 f2 so_far.bytes piece so_far.frames more.frames
            (session_text so_far.frames (replies_of so_far.events)) (session_text more.frames (replies_of more.events))
            ended n so_far.cut so_far.wrote more.served);
      }

  pub so_far_none : (r : R) (a b : Stand S C W) (f : End) → source.gave r [] r → keeper.leads a.seat [] b.seat
      → timer.ticked a.clock [] b.clock → sink.took a.writer [] b.writer → Frames [] [] f
      → SoFar source keeper timer sink 0 r r a b f
  so_far_none r a b f gave led_none ticked_none took_none cut =
      record {
        bytes = [];
        frames = [];
        events = [];
        read = gave;
        size = omega arith;
        order = refl;
        asked = record { led = led_none; moments = ticked_none; lanes = tt };
        cut = cut;
        wrote = took_none;
      }
