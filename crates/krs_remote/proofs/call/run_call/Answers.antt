use Rattle.std.proofs.Common.{refl}
use Rattle.krs_remote.proofs.call.run_call.Goals as goal

pub returns : goal.returns
returns g c = (_, rw c.start-remote.ensures at c.call_once.ensures, refl)
