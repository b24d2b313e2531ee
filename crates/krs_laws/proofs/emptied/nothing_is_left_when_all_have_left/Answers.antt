use Rattle.krs_laws.proofs.{Leftovers.emptied, Opened.emptied_by_leaving}
use Rattle.krs_laws.proofs.emptied.nothing_is_left_when_all_have_left.Goals as goal

pub returns-clause-emptied : goal.returns-clause-emptied
returns-clause-emptied c = emptied

pub returns-clause-left : goal.returns-clause-left
returns-clause-left c = emptied_by_leaving
