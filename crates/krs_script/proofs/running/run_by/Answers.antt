use Rattle.std.proofs.Common.{ap}
use Rattle.krs_script.proofs.Going.{ends_of}
use Rattle.krs_script.proofs.running.run_by.Goals as goal

pub returns-clause-ends : goal.returns-clause-ends
returns-clause-ends g c =
    ends_of _ _ _ _ _ _ _ _ _ _ _ _ _ c.new-pending.ensures.items c.run-stopped.ensures.runs
    (rw c.is_refused.ensures at c.finish-status.ensures.says)
    (λ is. ap g.W.Write.contents (c.finish-status.ensures.failed is))
