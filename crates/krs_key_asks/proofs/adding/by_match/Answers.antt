use Rattle.std.proofs.Common.{rules, tests}
use Rattle.krs_key_asks.proofs.adding.by_match.Goals as goal

pub returns-then-not-grants-clause-place : goal.returns-then-not-grants-clause-place
returns-then-not-grants-clause-place c = search (rules, tests)

pub returns-clause-place : goal.returns-clause-place
returns-clause-place c = search (rules, tests)
