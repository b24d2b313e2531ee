use Rattle.krs_screen.proofs.Answering.{faithful}
use Rattle.krs_screen.proofs.laws.one_run.Goals as goal

pub returns : goal.returns
returns c = λ peer groups events few. faithful peer groups events few
