use Rattle.std.specs.IoError.{raw_os_error}
use Rattle.krs_listen.proofs.telling.tell_accepted.Goals as goal

pub returns-in-Failed : goal.returns-in-Failed
returns-in-Failed g c = rw c.in-Failed.is (raw_os_error c.args.cause.now, c.tell_cause.ensures)
