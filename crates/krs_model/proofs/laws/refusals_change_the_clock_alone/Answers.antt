use Rattle.krs_model.proofs.History.Steps.{refusal_stays}
use Rattle.krs_model.proofs.laws.refusals_change_the_clock_alone.Goals as goal

pub returns : goal.returns
returns c = refusal_stays
