use Rattle.std.proofs.Common.{arith, min}
use Rattle.krs_wire.proofs.PutLemmas.{length_fields}
use Rattle.krs_wire.proofs.lengths.body_length.Goals as goal
use Rattle.std.proofs.lemmas.Grind.{common_steps}

pub returns : goal.returns
returns c = grind (arith, common_steps, min, length_fields)
