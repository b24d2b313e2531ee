use Rattle.std.proofs.Common.{rules}
use Rattle.krs_script.proofs.listed.records.Goals as goal

pub returns-in-Ok-Bytes : goal.returns-in-Ok-Bytes
returns-in-Ok-Bytes c = search rules
