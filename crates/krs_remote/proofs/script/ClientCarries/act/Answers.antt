use Rattle.krs_remote.proofs.RemoteLemmas.{breaks_by, if_err}
use Rattle.krs_remote.proofs.script.ClientCarries.act.Goals as goal

pub returns-clause-causes : goal.returns-clause-causes
returns-clause-causes g c =
    if_err c.act.result _ _ c.act.ensures.err (λ stop breaks. breaks_by _ _ _ _ breaks)
