use Rattle.krs_model.proofs.History.Belongings.{step_leaves}
use Rattle.krs_model.proofs.belonging.nothing_is_left_of_a_client.Goals as goal

pub returns : goal.returns
returns c = step_leaves
