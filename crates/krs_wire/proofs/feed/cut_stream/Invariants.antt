use Rattle.std.proofs.Common.{◌-◌, ◌≡◌, ◌≤◌, drop, length}
use Rattle.krs_wire.proofs.CutLemmas.{Continues}
use Rattle.krs_wire.proofs.feed.cut_stream.Given as goal

abbrev pub invariant-frames : goal.invariant-frames
invariant-frames l = record {
  within : length l.after ≤ length l.bytes;
  part : l.after ≡ drop (length l.bytes - length l.after) l.bytes;
  so_far : Continues l.bytes l.frames.items l.after;
}

abbrev pub decreases-frames : goal.decreases-frames
decreases-frames l = length l.after
