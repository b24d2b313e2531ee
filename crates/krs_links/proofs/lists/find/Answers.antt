use Rattle.std.proofs.Common.{sym}
use Rattle.krs_links.specs.Indexed.{linked}
use Rattle.krs_links.proofs.PlacesLemmas.{none_at, serial_at_named}
use Rattle.krs_links.proofs.lists.find.Goals as goal
use Rattle.std.proofs.Common.{arith}
use Rattle.std.proofs.lemmas.Grind.{common_steps}

pub returns-in-Some : goal.returns-in-Some
returns-in-Some c = grind (arith, common_steps, serial_at_named)

pub returns-in-None : goal.returns-in-None
returns-in-None c = sym (none_at c.args.name.now (linked c.args.index.now) (sym c.in-None.ensures))
