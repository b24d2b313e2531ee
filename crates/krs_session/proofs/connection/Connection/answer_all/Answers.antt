use Rattle.krs_session.proofs.JoinLemmas.{holds_wrote}
use Rattle.krs_session.proofs.connection.Connection.answer_all.Goals as goal

pub returns-in-None-clause-asks : goal.returns-in-None-clause-asks
returns-in-None-clause-asks g c =
    holds_wrote g.D.Keeper g.C.Clock g.W.Sink g.met.D.Keeper.joins g.met.C.Clock.joins g.met.W.Sink.joins
    _ _ _ _ _ _ c.in-None.ensures.holds c.flush.ensures.writes.led c.flush.ensures.writes.clock c.flush.ensures.wrote
