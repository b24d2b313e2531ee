use Rattle.krs_model.proofs.Hiding.Others.{has_others, puts_any}
use Rattle.krs_model.proofs.secrets.other_histories_are_asked_alike.Goals as goal

pub returns : goal.returns
returns c = record { others = has_others; any = puts_any }
