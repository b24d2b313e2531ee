use Rattle.std.proofs.Common.{rules}
use Rattle.krs_types.proofs.kind.Kind.check_payload.Goals as goal

pub returns-then-fits-clause-value : goal.returns-then-fits-clause-value
returns-then-fits-clause-value c = search rules

pub returns-then-fits-clause-bound : goal.returns-then-fits-clause-bound
returns-then-fits-clause-bound c = search rules

pub returns-else-fits-clause-value : goal.returns-else-fits-clause-value
returns-else-fits-clause-value c = search rules

pub returns-else-fits-clause-bound : goal.returns-else-fits-clause-bound
returns-else-fits-clause-bound c = search rules
