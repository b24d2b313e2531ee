use Rattle.krs_wire.proofs.AskLemmas.{front_again, front_takes}
use Rattle.krs_wire.proofs.laws.one_encoding.Goals as goal

pub returns-clause-found : goal.returns-clause-found
returns-clause-found c = λ bytes framed more fits is. front_takes bytes framed more fits is

pub returns-clause-again : goal.returns-clause-again
returns-clause-again c = λ framed more fits. front_again framed.tag framed.ask more fits
