use Rattle.std.proofs.Common.{arith, sym}
use Rattle.krs_walk.proofs.KeyringsLemmas.{no_rings_there, rings_there}
use Rattle.krs_walk.proofs.keyrings.rings_of.Goals as goal
use Rattle.std.proofs.lemmas.Grind.{common_steps}

pub returns-in-Some : goal.returns-in-Some
returns-in-Some c = grind (arith, common_steps, rings_there)

pub returns-in-None : goal.returns-in-None
returns-in-None c = sym (no_rings_there c.args.keys.now.keys c.args.serial (sym c.in-None.ensures))
