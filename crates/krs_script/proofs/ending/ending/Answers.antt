use Rattle.std.proofs.Common.{rules}
use Rattle.krs_script.proofs.ending.ending.Goals as goal

pub returns-in-Err-Memory-clause-status : goal.returns-in-Err-Memory-clause-status
returns-in-Err-Memory-clause-status c = search rules

pub returns-in-Err-Connection-clause-status : goal.returns-in-Err-Connection-clause-status
returns-in-Err-Connection-clause-status c = search rules
