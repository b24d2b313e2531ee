use Rattle.krs_model.proofs.Asks.Joins.{join_least}
use Rattle.krs_model.proofs.laws.joins_take_the_least_serial.Goals as goal

pub returns : goal.returns
returns c = join_least
