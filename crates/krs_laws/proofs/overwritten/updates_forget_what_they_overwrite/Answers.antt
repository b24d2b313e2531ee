use Rattle.krs_laws.proofs.Overwriting.{updates_forget}
use Rattle.krs_laws.proofs.overwritten.updates_forget_what_they_overwrite.Goals as goal

pub returns : goal.returns
returns c = updates_forget
