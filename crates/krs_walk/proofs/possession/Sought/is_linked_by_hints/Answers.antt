use Rattle.std.proofs.Common.{sym}
use Rattle.krs_walk.proofs.possession.Sought.is_linked_by_hints.Goals as goal

pub returns-then-is_hinted_far : goal.returns-then-is_hinted_far
returns-then-is_hinted_far c = sym (c.is_hinted_far.ensures c.if-is_hinted_far.true)
