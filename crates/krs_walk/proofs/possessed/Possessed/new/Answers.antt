use Rattle.krs_walk.proofs.possessed.Possessed.new.Goals as goal

pub returns : goal.returns
returns c = λ s. record { rings = c.new.ensures s; matches = tt }
