use Rattle.krs_laws.proofs.Watchers.{owners_ask}
use Rattle.krs_laws.proofs.noting.queues_are_their_owners.Goals as goal

pub returns : goal.returns
returns c = owners_ask
