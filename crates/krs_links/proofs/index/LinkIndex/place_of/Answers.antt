use Rattle.std.proofs.Common.{arith}
use Rattle.krs_links.proofs.IndexedLemmas.{no_place}
use Rattle.krs_links.proofs.index.LinkIndex.place_of.Goals as goal
use Rattle.std.proofs.lemmas.Grind.{common_steps}

pub returns : goal.returns
returns c = grind (arith, common_steps, no_place)
