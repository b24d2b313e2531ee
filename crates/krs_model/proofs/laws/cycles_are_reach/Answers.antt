use Rattle.krs_model.proofs.Reach.Cycles.{closes_from, from_closes}
use Rattle.krs_model.proofs.laws.cycles_are_reach.Goals as goal

pub returns : goal.returns
returns c = λ keys key ring linked there. (closes_from keys key ring, from_closes keys key ring linked there)
