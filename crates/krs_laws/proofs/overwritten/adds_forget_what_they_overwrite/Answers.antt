use Rattle.krs_laws.proofs.AddedOver.{adds_forget}
use Rattle.krs_laws.proofs.overwritten.adds_forget_what_they_overwrite.Goals as goal

pub returns : goal.returns
returns c = adds_forget
