use Rattle.krs_tables.proofs.Links.{room_told}
use Rattle.krs_ring_asks.proofs.linking.check_full.Goals as goal
use Rattle.std.proofs.Common.{arith}
use Rattle.std.proofs.lemmas.Grind.{common_steps}

pub returns-then-would_refuse : goal.returns-then-would_refuse
returns-then-would_refuse c = grind (arith, common_steps, room_told)

pub returns : goal.returns
returns c = grind (arith, common_steps, room_told)
