use Rattle.krs_world.proofs.Orders.{one_order}
use Rattle.krs_world.proofs.laws.seats_see_one_order.Goals as goal

pub returns : goal.returns
returns c = one_order
