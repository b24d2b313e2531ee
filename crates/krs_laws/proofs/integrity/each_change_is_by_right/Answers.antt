use Rattle.krs_laws.proofs.ByRight.{all_by_right}
use Rattle.krs_laws.proofs.integrity.each_change_is_by_right.Goals as goal

pub returns : goal.returns
returns c = all_by_right
