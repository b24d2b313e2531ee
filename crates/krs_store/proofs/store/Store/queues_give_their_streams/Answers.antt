use Rattle.std.proofs.Common.{subst}
use Rattle.krs_model.specs.Receiving.{GivesStreams}
use Rattle.krs_model.proofs.History.Streams.{gives_streams}
use Rattle.krs_store.proofs.store.Store.queues_give_their_streams.Goals as goal

pub returns : goal.returns
returns c = subst GivesStreams c.self.view_is (gives_streams c.self.inside.tables c.self.invariant)
