use Rattle.krs_model.proofs.History.Belongings.{contexts_greeted}
use Rattle.krs_model.proofs.belonging.contexts_are_their_clients.Goals as goal

pub returns : goal.returns
returns c = contexts_greeted
