-- Without a buffer no line is read.
use Rattle.std.proofs.Common.{arith, inl, refl}
use Rattle.krs_script.proofs.Going.{going_start, runs_unread}
use Rattle.krs_script.proofs.running.run.Goals as goal

pub returns-in-Err-clause-runs : goal.returns-in-Err-clause-runs
returns-in-Err-clause-runs g c =
    runs_unread g.C.Carries.acts g.C.Carries.breaks _ _ _ _ _ _ _ _ _ _ (inl refl) (omega arith)
    (going_start g.C.Carries.acts _ _ _ _)
