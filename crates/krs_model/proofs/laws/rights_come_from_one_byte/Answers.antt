use Rattle.krs_model.proofs.Lookups.Rights.{one_byte}
use Rattle.krs_model.proofs.laws.rights_come_from_one_byte.Goals as goal

pub returns : goal.returns
returns c = one_byte
