use Rattle.std.proofs.Common.{refl}
use Rattle.krs_walk.proofs.HeldLemmas.{none_held}
use Rattle.krs_walk.proofs.held.HeldRings.new.Goals as goal

pub returns : goal.returns
returns c = λ s. none_held s _ refl refl c.requires
