use Rattle.krs_model.proofs.Sound.Steps.{step_sound}
use Rattle.krs_model.proofs.laws.each_step_keeps_a_store_sound.Goals as goal

pub returns : goal.returns
returns c = step_sound
