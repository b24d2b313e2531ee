use Rattle.std.proofs.Common.{[]}
use Rattle.krs_ctl.proofs.connecting.call_at.Goals as goal

pub returns-in-Ok-clause-told : goal.returns-in-Ok-clause-told
returns-in-Ok-clause-told g c =
    (c.of_refused-refused.result.now, rw c.as_str-in-Ok.ensures.value at c.tell_end.ensures)

pub returns-in-Err-clause-told : goal.returns-in-Err-clause-told
returns-in-Err-clause-told g c =
    ([], rw c.as_str-in-Err.ensures.value at c.tell_end-in-Err.ensures)
