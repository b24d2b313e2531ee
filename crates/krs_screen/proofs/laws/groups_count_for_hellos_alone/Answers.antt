use Rattle.krs_screen.proofs.Naming.{same_step}
use Rattle.krs_screen.proofs.laws.groups_count_for_hellos_alone.Goals as goal

pub returns : goal.returns
returns c = λ peer groups others s bytes isnt. same_step peer groups others s bytes isnt
