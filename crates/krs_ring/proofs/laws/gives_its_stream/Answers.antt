use Rattle.krs_model.proofs.Notes.Streams.{gives_its_stream}
use Rattle.krs_ring.proofs.laws.gives_its_stream.Goals as goal

pub returns : goal.returns
returns c = gives_its_stream
