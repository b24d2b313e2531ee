use Rattle.krs_model.proofs.History.Belongings.{readers_greeted}
use Rattle.krs_model.proofs.belonging.readers_have_named_themselves.Goals as goal

pub returns : goal.returns
returns c = readers_greeted
