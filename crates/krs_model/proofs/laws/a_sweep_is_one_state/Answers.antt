use Rattle.krs_model.proofs.Sweep.Laws.{one_sweep}
use Rattle.krs_model.proofs.laws.a_sweep_is_one_state.Goals as goal

pub returns : goal.returns
returns c = one_sweep
