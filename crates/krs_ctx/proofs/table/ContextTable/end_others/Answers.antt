use Rattle.krs_ctx.proofs.GroupLemmas.{ends_one}
use Rattle.krs_ctx.proofs.table.ContextTable.end_others.Goals as goal
use Rattle.std.proofs.Common.{arith}
use Rattle.std.proofs.lemmas.Grind.{common_steps}

pub ending-preserved-in-Some : goal.ending-preserved-in-Some
ending-preserved-in-Some c = grind (arith, common_steps, ends_one)
