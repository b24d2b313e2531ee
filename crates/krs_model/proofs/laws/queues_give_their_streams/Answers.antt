use Rattle.krs_model.proofs.History.Streams.{gives_streams}
use Rattle.krs_model.proofs.laws.queues_give_their_streams.Goals as goal

pub returns : goal.returns
returns c = gives_streams
