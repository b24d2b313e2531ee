use Rattle.std.proofs.Common.{rules}
use Rattle.krs_watch.proofs.posting.post_note.Goals as goal

pub loop-place-preserved-then-place-key : goal.loop-place-preserved-then-place-key
loop-place-preserved-then-place-key c = search rules
