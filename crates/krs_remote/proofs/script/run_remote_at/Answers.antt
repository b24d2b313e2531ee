use Rattle.std.proofs.Common.{ap, rules}
use Rattle.krs_remote.specs.Remote.{talk_of}
use Rattle.krs_remote.proofs.EndingLemmas.{ends_remote}
use Rattle.krs_remote.proofs.script.run_remote_at.Goals as goal

pub returns-clause-ends : goal.returns-clause-ends
returns-clause-ends g c =
    ends_remote _ _ _ _ _ (g.F.Read.remaining c.args.from) _ _ _
    (ap (λ r. talk_of g.F.Read.remaining r (g.T.Write.contents c.args.to.now)) c.start-remote.ensures)
    c.run_by-ended.ensures.ends (search rules)
