use Rattle.krs_screen.proofs.Arriving.{arrives}
use Rattle.krs_screen.proofs.laws.one_name.Goals as goal

pub returns : goal.returns
returns c = λ peer groups events frames end few fits is. arrives peer groups events frames end few fits is
