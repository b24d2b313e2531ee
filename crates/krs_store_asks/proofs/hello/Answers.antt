use Rattle.std.proofs.Common.{rules}
use Rattle.krs_store_asks.proofs.hello.Goals as goal

pub returns : goal.returns
returns c = search rules
