use Rattle.std.proofs.Common.{rules, tests}
use Rattle.krs_key_asks.proofs.changing.expiry_after.Goals as goal

pub returns : goal.returns
returns c = search (rules, tests)
