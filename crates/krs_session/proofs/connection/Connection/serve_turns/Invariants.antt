use Rattle.std.proofs.Common.{◌+◌, ◌≡◌, None}
use Rattle.krs_wire.specs.Feeding.{fault_of}
use Rattle.krs_session.specs.Serving.{stand, Stays}
use Rattle.krs_session.proofs.PieceLemmas.{SoFar}
use Rattle.krs_session.proofs.connection.Connection.serve_turns.Given as goal

abbrev pub invariant-loop-made : goal.invariant-loop-made
invariant-loop-made g l = record {
  state : SoFar g.R.Source g.D.Keeper g.C.Clock g.W.Sink l.made l.initial.reader l.reader
      (stand l.fn.self) (stand l.self) l.self.held.now.feed;
  unfailed : fault_of l.self.held.now.feed ≡ None;
  reads : g.R.Source.reads l.reader ≡ g.R.Source.reads l.initial.reader + l.made;
  empties : g.R.Source.empties l.reader ≡ g.R.Source.empties l.initial.reader;
  read_failures : g.R.Source.failures l.reader ≡ g.R.Source.failures l.initial.reader;
  failures : g.W.Sink.failures l.self.writer.now ≡ g.W.Sink.failures l.fn.self.writer.now;
  rested : g.D.Keeper.rested l.self.seat.now;
  stays : Stays g.D.Keeper l.fn.self l.self;
}
