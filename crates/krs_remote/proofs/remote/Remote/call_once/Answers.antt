use Rattle.std.proofs.Common.{Err, Ok}
use Rattle.krs_remote.proofs.remote.Remote.call_once.Goals as goal

pub returns-in-Ok : goal.returns-in-Ok
returns-in-Ok g c = (_, Ok tt, c.in-Ok.ensures.ok, c.finish.ensures.says)

pub returns-in-Err : goal.returns-in-Err
returns-in-Err g c = (_, Err c.in-Err.stop, (c.new.ensures.items, c.in-Err.ensures.err), c.finish-in-Err.ensures.says)
