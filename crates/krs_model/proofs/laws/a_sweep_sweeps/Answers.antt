use Rattle.krs_model.proofs.Sweep.Laws.{sweep_swept}
use Rattle.krs_model.proofs.laws.a_sweep_sweeps.Goals as goal

pub returns : goal.returns
returns c = sweep_swept
