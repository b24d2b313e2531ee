use Rattle.krs_world.proofs.Orders.{only_grows}
use Rattle.krs_world.proofs.laws.the_history_only_grows.Goals as goal

pub returns : goal.returns
returns c = only_grows
