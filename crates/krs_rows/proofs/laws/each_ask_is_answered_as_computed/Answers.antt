use Rattle.krs_rows.proofs.Computed.{is_answered, may_be_answered}
use Rattle.krs_rows.proofs.laws.each_ask_is_answered_as_computed.Goals as goal

pub returns-clause-may : goal.returns-clause-may
returns-clause-may c = may_be_answered

pub returns-clause-must : goal.returns-clause-must
returns-clause-must c = is_answered
