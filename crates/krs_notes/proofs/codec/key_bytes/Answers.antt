use Rattle.std.proofs.Common.{arith, refl}
use Rattle.krs_model.proofs.Notes.Bytes.{bytes_of-Key}
use Rattle.krs_notes.proofs.codec.key_bytes.Goals as goal

pub returns : goal.returns
returns c = rw (
  bytes_of-Key c.args.subtype c.args.watch c.args.key c.args.aux (omega (arith, c.ranges.watch)),
  c.event_number-number.ensures,
  c.to_le_bytes.ensures,
  c.to_le_bytes-2.ensures,
) refl
