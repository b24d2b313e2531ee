use Rattle.krs_model.proofs.Notes.Fronts.{longest_front}
use Rattle.krs_watch.proofs.laws.reads_take_the_longest_front.Goals as goal

pub returns : goal.returns
returns c = longest_front
