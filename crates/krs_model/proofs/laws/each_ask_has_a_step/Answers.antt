use Rattle.krs_model.proofs.Asks.Total.{has_step}
use Rattle.krs_model.proofs.laws.each_ask_has_a_step.Goals as goal

pub returns : goal.returns
returns c = λ old lane moment ask sound. has_step old sound lane moment ask
