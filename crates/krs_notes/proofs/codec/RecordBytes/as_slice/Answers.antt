use Rattle.std.proofs.Common.{rules}
use Rattle.krs_notes.proofs.codec.RecordBytes.as_slice.Goals as goal

pub returns : goal.returns
returns c = search rules
