use Rattle.krs_laws.proofs.Opened.{queues_are}
use Rattle.krs_laws.proofs.noting.queues_are_their_clients.Goals as goal

pub returns : goal.returns
returns c = queues_are
