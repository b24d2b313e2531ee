use Rattle.krs_wire.proofs.PutLemmas.{all_put, too_long}
use Rattle.krs_wire.proofs.bodies.put_body.Goals as goal
use Rattle.std.proofs.Common.{arith}
use Rattle.std.proofs.lemmas.Grind.{common_steps}

pub returns-clause-ok : goal.returns-clause-ok
returns-clause-ok c = grind (arith, common_steps, all_put)

pub returns-clause-long : goal.returns-clause-long
returns-clause-long c = grind (arith, common_steps, too_long)
