use Rattle.krs_laws.proofs.Attaching.{all_attach}
use Rattle.krs_laws.proofs.going.attachments_change_by_right.Goals as goal

pub returns : goal.returns
returns c = all_attach
