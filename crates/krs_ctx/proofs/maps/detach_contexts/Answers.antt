use Rattle.std.proofs.{lemmas.Map.Made.map_same_pairs}
use Rattle.krs_ctx.proofs.EachLemmas.{mapped_is}
use Rattle.krs_ctx.proofs.maps.detach_contexts.Goals as goal
use Rattle.std.proofs.Common.{arith}
use Rattle.std.proofs.lemmas.Grind.{common_steps}

pub returns : goal.returns
returns c = grind (arith, common_steps, map_same_pairs, mapped_is)
