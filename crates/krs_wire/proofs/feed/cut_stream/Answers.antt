use Rattle.std.proofs.Common.{sym}
use Rattle.krs_wire.specs.Frame.{bad}
use Rattle.krs_wire.proofs.CutLemmas.{continues_end}
use Rattle.krs_wire.proofs.feed.cut_stream.Goals as goal

pub returns-in-Ok-None-clause-frames : goal.returns-in-Ok-None-clause-frames
returns-in-Ok-None-clause-frames c =
    continues_end _ _ _ _ (rw c.in-Ok-None.field-0-is at c.in-Ok-None.ensures.exact, sym c.frames.invariant.part)
    c.frames.invariant.so_far

pub returns-in_default-clause-frames : goal.returns-in_default-clause-frames
returns-in_default-clause-frames c =
    continues_end _ _ _ (bad c.in-Err.fault) (c.in-Err.ensures.exact c.in_default.not-Memory)
    c.frames.invariant.so_far
