use Rattle.std.proofs.{lemmas.Map.Made.filter_same_pairs}
use Rattle.krs_ctx.proofs.maps.drop_processes.Goals as goal
use Rattle.std.proofs.Common.{arith}
use Rattle.std.proofs.lemmas.Grind.{common_steps}

pub returns : goal.returns
returns c = grind (arith, common_steps, filter_same_pairs)
