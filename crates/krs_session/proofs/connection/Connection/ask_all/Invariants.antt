use Rattle.std.proofs.Common.{◌++◌, ◌≡◌, false, length, List, None, true}
use Rattle.krs_wire.specs.declared.framed.Framed.{Framed}
use Rattle.krs_session.specs.Serving.{AsksAndHolds, IsAskedAnew, ReadsNothing, stand, Stays}
use Rattle.krs_session.proofs.connection.Connection.ask_all.Given as goal

abbrev pub invariant-frames : goal.invariant-frames
invariant-frames g l = record {
  state : (done : List Framed) × (done ++ l.frames.items ≡ l.initial.frames.items)
      × AsksAndHolds g.D.Keeper g.C.Clock g.W.Sink (stand l.fn.self) (stand l.self)
      l.self.held.now.out.bytes.items done l.stop;
  count : l.stop ≡ None → g.W.Sink.failures l.self.writer.now ≡ g.W.Sink.failures l.fn.self.writer.now;
  reads : ReadsNothing l.fn.self l.self;
  stays : Stays g.D.Keeper l.fn.self l.self;
  same : l.was_asked ≡ false
      → (l.frames.items ≡ l.initial.frames.items) × (l.self.clock.now ≡ l.fn.self.clock.now);
  anew : l.was_asked ≡ true → IsAskedAnew g.C.Clock.renewed l.fn.self.clock.now;
}

abbrev pub decreases-frames : goal.decreases-frames
decreases-frames g l = length l.frames.items
