use Rattle.krs_tables.proofs.Links.{linked_told}
use Rattle.krs_ring_asks.proofs.moving.check_linked.Goals as goal
use Rattle.std.proofs.Common.{arith}
use Rattle.std.proofs.lemmas.Grind.{common_steps}

pub returns-then-not-links_key : goal.returns-then-not-links_key
returns-then-not-links_key c = grind (arith, common_steps, linked_told)

pub returns : goal.returns
returns c = grind (arith, common_steps, linked_told)
