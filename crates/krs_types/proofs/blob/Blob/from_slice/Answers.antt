use Rattle.std.proofs.Common.{rules}
use Rattle.krs_types.proofs.blob.Blob.from_slice.Goals as goal

pub returns : goal.returns
returns c = search rules
