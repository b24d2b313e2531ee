use Rattle.krs_model.proofs.Sweep.Laws.{swept_sweep}
use Rattle.krs_model.proofs.laws.a_swept_state_stays.Goals as goal

pub returns : goal.returns
returns c = swept_sweep
