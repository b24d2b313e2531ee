use Rattle.krs_walk.proofs.DescentLemmas.{is_what}
use Rattle.krs_walk.proofs.walker.Walker.search.Goals as goal

pub returns : goal.returns
returns c = is_what c.find.result _ c.find.ensures
