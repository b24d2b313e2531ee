use Rattle.std.proofs.Common.{inr, refl}
use Rattle.krs_script.proofs.ending.finish.Goals as goal

pub returns-in-Err-clause-says : goal.returns-in-Err-clause-says
returns-in-Err-clause-says g c = inr (refl, rw c.ending-status.ensures.last at c.in-Err.ensures.failed)
