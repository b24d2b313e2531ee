use Rattle.std.proofs.Common.{rules, tests}
use Rattle.krs_key_asks.proofs.changing.check_chown.Goals as goal

pub returns-then-caller-eq0 : goal.returns-then-caller-eq0
returns-then-caller-eq0 c = search (rules, tests)

pub returns : goal.returns
returns c = search (rules, tests)
