use Rattle.krs_laws.proofs.WatchesSet.{all_by_right}
use Rattle.krs_laws.proofs.noting.notes_are_by_right.Goals as goal

pub returns : goal.returns
returns c = all_by_right
