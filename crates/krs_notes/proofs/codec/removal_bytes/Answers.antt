use Rattle.std.proofs.Common.{arith, refl}
use Rattle.krs_model.proofs.Notes.Bytes.{bytes_of-Removal}
use Rattle.krs_notes.proofs.codec.removal_bytes.Goals as goal

pub returns : goal.returns
returns c = rw (bytes_of-Removal c.args.watch c.args.id (omega (arith, c.ranges.watch)), c.to_le_bytes.ensures) refl
