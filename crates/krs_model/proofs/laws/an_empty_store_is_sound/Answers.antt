use Rattle.krs_model.proofs.Sound.Steps.{start_sound}
use Rattle.krs_model.proofs.laws.an_empty_store_is_sound.Goals as goal

pub returns : goal.returns
returns c = start_sound
