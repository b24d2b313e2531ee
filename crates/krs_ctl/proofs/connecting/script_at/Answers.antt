-- What is told of the script is told whatever its status is; this one is usage only where it stopped for that.
use Rattle.krs_ctl.proofs.connecting.script_at.Goals as goal

pub returns-in-Ok-clause-told : goal.returns-in-Ok-clause-told
returns-in-Ok-clause-told g c =
    c.tell_stopped.ensures.told c.run_remote_at-status.result.0 c.run_remote_at-status.ensures.usage
