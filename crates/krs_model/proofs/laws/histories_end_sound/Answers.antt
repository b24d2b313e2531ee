use Rattle.krs_model.specs.State.{starting_at}
use Rattle.krs_model.proofs.Sound.Steps.{legal_sound, start_sound}
use Rattle.krs_model.proofs.laws.histories_end_sound.Goals as goal

pub returns : goal.returns
returns c = λ n events end legal. legal_sound (starting_at n) events end (start_sound n) legal
