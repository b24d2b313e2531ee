use Rattle.krs_wire.proofs.PutLemmas.{longer_one}
use Rattle.krs_wire.proofs.lengths.entries_length.Goals as goal
use Rattle.std.proofs.Common.{arith}
use Rattle.std.proofs.lemmas.Grind.{common_steps}

pub loop-entry-preserved : goal.loop-entry-preserved
loop-entry-preserved c = grind (arith, common_steps, longer_one)
