use Rattle.krs_laws.proofs.WithinLimits.{empty_within, stays_within}
use Rattle.krs_laws.proofs.limits.limits_hold_in_every_history.Goals as goal

pub returns-clause-always : goal.returns-clause-always
returns-clause-always c = stays_within

pub returns-clause-empty : goal.returns-clause-empty
returns-clause-empty c = empty_within
