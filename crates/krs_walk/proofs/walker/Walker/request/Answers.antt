use Rattle.krs_walk.proofs.DescentLemmas.{is_what}
use Rattle.krs_walk.proofs.walker.Walker.request.Goals as goal

pub returns : goal.returns
returns c = is_what c.find_in_turn.result _ c.find_in_turn.ensures
