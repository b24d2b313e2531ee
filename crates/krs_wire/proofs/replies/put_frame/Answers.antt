use Rattle.std.proofs.Common.{rules}
use Rattle.krs_wire.proofs.replies.put_frame.Goals as goal

pub returns-in_err-extend_from_slice-2-clause-err : goal.returns-in_err-extend_from_slice-2-clause-err
returns-in_err-extend_from_slice-2-clause-err c = search rules
