use Rattle.krs_walk.proofs.SearchLemmas.{linking_ring}
use Rattle.krs_walk.proofs.search.Search.enters.Goals as goal
use Rattle.std.proofs.Common.{arith}
use Rattle.std.proofs.lemmas.Grind.{common_steps}

pub has-requires-clause-ring : goal.has-requires-clause-ring
has-requires-clause-ring c = grind (arith, common_steps, linking_ring)
