use Rattle.krs_model.proofs.Notes.Fronts.{read_front}
use Rattle.krs_model.proofs.laws.a_read_takes_the_longest_front.Goals as goal

pub returns : goal.returns
returns c = read_front
