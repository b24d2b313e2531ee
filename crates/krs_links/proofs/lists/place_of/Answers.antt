use Rattle.krs_links.proofs.PlacesLemmas.{none_given}
use Rattle.krs_links.proofs.lists.place_of.Goals as goal
use Rattle.std.proofs.Common.{arith}
use Rattle.std.proofs.lemmas.Grind.{common_steps}

pub returns-clause-none : goal.returns-clause-none
returns-clause-none c = grind (arith, common_steps, none_given)
