use Rattle.std.proofs.Common.{◌∙◌, ap, length}
use Rattle.krs_ctx.proofs.MembersLemmas.{drained}
use Rattle.krs_ctx.proofs.members.Members.count.Goals as goal

pub returns-clause-count : goal.returns-clause-count
returns-clause-count c =
    let ran = c.count.ensures.ran in
    ran.2 ∙ (drained c.of.result ran.0 ran.1.1.0 ran.1.0 ran.1.1.1 ran.1.1.2 ∙ ap length c.of.ensures.pairs)
