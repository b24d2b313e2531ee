use Rattle.std.proofs.Common.{arith}
use Rattle.krs_ring_asks.proofs.MovedLinks.{linked_is, making_leaves}
use Rattle.krs_ring_asks.proofs.moving.move_to_new.Goals as goal
use Rattle.std.proofs.lemmas.Grind.{common_steps}

pub drop_link-requires : goal.drop_link-requires
drop_link-requires c = grind (arith, common_steps, making_leaves, linked_is)
