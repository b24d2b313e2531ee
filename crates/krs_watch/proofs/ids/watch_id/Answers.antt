use Rattle.std.proofs.Common.{rules}
use Rattle.krs_watch.proofs.ids.watch_id.Goals as goal

pub returns-in-minus1 : goal.returns-in-minus1
returns-in-minus1 c = search rules
