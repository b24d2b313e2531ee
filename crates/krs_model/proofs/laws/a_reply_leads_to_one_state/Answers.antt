use Rattle.krs_model.proofs.History.Determined.{one_history, one_reply, one_step}
use Rattle.krs_model.proofs.laws.a_reply_leads_to_one_state.Goals as goal

pub returns-clause-step : goal.returns-clause-step
returns-clause-step c = one_step

pub returns-clause-reply : goal.returns-clause-reply
returns-clause-reply c = one_reply

pub returns-clause-history : goal.returns-clause-history
returns-clause-history c = one_history
