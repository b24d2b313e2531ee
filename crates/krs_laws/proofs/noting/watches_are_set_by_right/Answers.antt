use Rattle.krs_laws.proofs.Watchers.{all_set}
use Rattle.krs_laws.proofs.noting.watches_are_set_by_right.Goals as goal

pub returns : goal.returns
returns c = all_set
