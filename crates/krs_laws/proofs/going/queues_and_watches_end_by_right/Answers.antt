use Rattle.krs_laws.proofs.Ending.{all_end}
use Rattle.krs_laws.proofs.going.queues_and_watches_end_by_right.Goals as goal

pub returns : goal.returns
returns c = all_end
