use Rattle.std.proofs.Common.{rules}
use Rattle.krs_store_asks.proofs.add.Goals as goal

pub returns : goal.returns
returns c = search rules
