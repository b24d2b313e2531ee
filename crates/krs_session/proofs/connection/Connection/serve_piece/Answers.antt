use Rattle.std.proofs.Common.{[], inr, refl, subst, sym}
use Rattle.krs_wire.specs.{Feeding.Feeds, Frame.End}
use Rattle.krs_session.proofs.PieceLemmas.{faulty_feeds, refused_fault, refused_more, stopped_ends, stopped_serves}
use Rattle.krs_session.proofs.connection.Connection.serve_piece.Goals as goal

pub returns-in-Memory-clause-served : goal.returns-in-Memory-clause-served
returns-in-Memory-clause-served g c = record {
  frames = [];
  events = [];
  order = refl;
  asked = record { led = g.met.D.Keeper.starts _; moments = g.met.C.Clock.starts _; lanes = tt };
  served = inr (refused_more _ _ _ c.requires.unfailed c.in-Err.ensures.refused, g.met.W.Sink.starts _);
}

pub returns-in_default-clause-served : goal.returns-in_default-clause-served
returns-in_default-clause-served g c = record {
  frames = [];
  events = [];
  order = refl;
  asked = record { led = g.met.D.Keeper.starts _; moments = g.met.C.Clock.starts _; lanes = tt };
  served = (
    refused_fault _ _ _ c.requires.unfailed c.in_default.not-Memory c.in-Err.ensures.refused,
    g.met.W.Sink.starts _,
  );
}

pub returns-in_default-clause-count : goal.returns-in_default-clause-count
returns-in_default-clause-count g c = (refl, c.in_default.not-Memory)

pub returns-in-Some-clause-served : goal.returns-in-Some-clause-served
returns-in-Some-clause-served g c =
    let e = c.in-Some.ensures.asks in
    let fed =
    subst (λ (f : End). Feeds c.args.self.now.held.now.feed c.args.piece.now c.in-Ok.frames.items f)
    (sym c.in-Some.ensures.feed) c.in-Ok.ensures.frames in
    record {
      frames = c.in-Ok.frames.items;
      events = e.events;
      order = e.order;
      asked = e.asked;
      served = stopped_serves g.W.Sink _ _ _ _ _ _ _ c.in-Some.stop fed e.wrote;
    }

pub returns-in-Some-clause-count : goal.returns-in-Some-clause-count
returns-in-Some-clause-count g c = stopped_ends g.W.Sink _ _ _ c.in-Some.stop c.in-Some.ensures.asks.wrote

pub returns-in-None-fault-clause-served : goal.returns-in-None-fault-clause-served
returns-in-None-fault-clause-served g c =
    let e = c.in-None.ensures.asks in
    let fed =
    subst (λ (f : End). Feeds c.args.self.now.held.now.feed c.args.piece.now c.in-Ok.frames.items f)
    (sym c.in-None.ensures.feed) c.in-Ok.ensures.frames in
    record {
      frames = c.in-Ok.frames.items;
      events = e.events;
      order = e.order;
      asked = e.asked;
      served = (fed, sym c.in-None-fault.ensures, e.wrote.0);
    }

pub returns-in-Some-fault-clause-served : goal.returns-in-Some-fault-clause-served
returns-in-Some-fault-clause-served g c =
    let e = c.in-None.ensures.asks in
    let fed =
    subst (λ (f : End). Feeds c.args.self.now.held.now.feed c.args.piece.now c.in-Ok.frames.items f)
    (sym c.in-None.ensures.feed) c.in-Ok.ensures.frames in
    record {
      frames = c.in-Ok.frames.items;
      events = e.events;
      order = e.order;
      asked = e.asked;
      served = (
        faulty_feeds _ _ _ _ c.in-Some-fault.fault (sym c.in-Some-fault.ensures) fed,
        e.wrote.0,
      );
    }

pub returns-in-Some-fault-clause-count : goal.returns-in-Some-fault-clause-count
returns-in-Some-fault-clause-count g c = (
  c.in-None.ensures.asks.wrote.1,
  λ is. c.in-Ok.ensures.no_memory (cc (c.in-None.ensures.feed, c.in-Some-fault.ensures, is)),
)
