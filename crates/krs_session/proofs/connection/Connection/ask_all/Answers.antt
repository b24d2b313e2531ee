use Rattle.std.proofs.Common.{[], ◌++◌, ◌∙◌, ◌∷◌, ap, append_assoc, List, refl, subst, sym}
use Rattle.krs_types.specs.declared.event.Event.{Event}
use Rattle.krs_model.specs.History.{event_of}
use Rattle.krs_store.specs.Told.{reply_of}
use Rattle.krs_wire.specs.declared.framed.Framed.{Framed}
use Rattle.krs_session.specs.Serving.{Asked, stand}
use Rattle.krs_session.proofs.JoinLemmas.{anew_all, anew_next, holds_none, holds_told, none_failed}
use Rattle.krs_session.proofs.connection.Connection.ask_all.Goals as goal

pub frames-init : goal.frames-init
frames-init g c = record {
  state = (
    [],
    refl,
    holds_none g.D.Keeper g.C.Clock g.W.Sink g.met.D.Keeper.joins g.met.C.Clock.joins g.met.W.Sink.joins _ _
        (g.met.D.Keeper.starts _) (g.met.C.Clock.starts _) (g.met.W.Sink.starts _) c.requires.empty,
  );
  count = λ none. refl;
  reads = (refl, refl);
  stays = record {
    setting = refl;
    writer = refl;
    seat = refl;
    clock = refl;
    held = refl;
    ready = c.requires.able.0;
    lane = refl;
  };
  same = λ is. (refl, refl);
  anew = λ is. absurd (cc);
}

pub frames-preserved : goal.frames-preserved
frames-preserved g c =
    let i = c.frames.invariant in
    let e = c.told_behind-stop.ensures in
    let done : List Framed = i.state.0 in
    let framed : Framed = c.in-Some.framed in
    let event : Event =
    event_of (g.D.Keeper.lane_of c.frames.self.seat.now) c.moment_of-moment.result framed.ask
    (reply_of c.ask_among-told.result) in
    let one : Asked g.D.Keeper g.C.Clock c.frames.self.seat.now c.told_behind-stop.new.self.seat.now
    c.frames.self.clock.now c.told_behind-stop.new.self.clock.now (event ∷ []) = record {
      led = g.met.D.Keeper.joins _ _ _ (event ∷ []) [] c.ask_among-told.ensures.led e.writes.led;
      moments = subst (g.C.Clock.ticked c.frames.self.clock.now (c.moment_of-moment.result ∷ [])) (sym e.writes.clock)
          c.moment_of-moment.ensures.ticked;
      lanes = (refl, tt);
    } in
    let holds = holds_told g.D.Keeper g.C.Clock g.W.Sink g.met.D.Keeper.joins g.met.C.Clock.joins g.met.W.Sink.joins
    _ _ (stand c.told_behind-stop.new.self) _ _ (record c.frames.self.held.now.out { tag = framed.tag })
    c.ask_among-told.new.out c.told_behind-stop.new.self.held.now.out _ framed c.ask_among-told.result _ _ i.stays.lane
    i.state.2 one c.ask_among-told.ensures.taken refl e.sent in
    record {
      state = (
        done ++ framed ∷ [],
        append_assoc done (framed ∷ []) c.pop_front.new.self.items
            ∙ (ap (λ (l : List Framed). done ++ l) (sym {A = List Framed} c.in-Some.ensures.items) ∙ i.state.1),
        holds,
      );
      count = none_failed g.W.Sink _ _ _ _ _ holds.pending;
      reads = (e.writes.reads.0 ∙ i.reads.0, e.writes.reads.1 ∙ i.reads.1);
      stays = record {
        setting = e.stays.setting ∙ i.stays.setting;
        writer = e.stays.writer ∙ i.stays.writer;
        seat = e.stays.seat ∙ i.stays.seat;
        clock = e.stays.clock ∙ i.stays.clock;
        held = e.stays.held ∙ i.stays.held;
        ready = e.stays.ready;
        lane = e.stays.lane ∙ (c.ask_among-told.ensures.lane ∙ i.stays.lane);
      };
      same = λ is. absurd (cc);
      anew = λ is. anew_next g.C.Clock.renewed c.frames.was_asked _ _ _ _ (λ none. (i.same none).1) i.anew
          c.moment_of-moment.ensures.anew;
    }

pub returns-clause-anew : goal.returns-clause-anew
returns-clause-anew g c =
    let i = c.frames.invariant in
    let e = c.in_default.ensures in
    λ some. anew_all g.C.Clock.renewed c.frames.was_asked _ _ _ (λ none. (i.same none).0) i.anew (e.items ∙ e.rest) some
