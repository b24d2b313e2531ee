use Rattle.krs_wire.proofs.CutLemmas.{cut_again, total}
use Rattle.krs_wire.proofs.laws.one_cut.Goals as goal

pub returns-clause-exists : goal.returns-clause-exists
returns-clause-exists c = total

pub returns-clause-unique : goal.returns-clause-unique
returns-clause-unique c = λ bytes frames others end other h k. cut_again bytes frames others end other h k
