use Rattle.std.proofs.Common.{◌&&◌, ◌∙◌, ap, cond, false, nat_eq}
use Rattle.krs_ctx.specs.Members.{lists}
use Rattle.krs_ctx.proofs.MembersLemmas.{tied}
use Rattle.krs_ctx.proofs.members.Members.remove.Goals as goal

pub returns : goal.returns
returns c = λ h n.
    c.remove.ensures.updates.0 (h, n)
    ∙ ap (λ b. cond b false (lists c.args.self.now h n))
    (tied c.from.result c.args.number (h, n) ∙ ap (λ g. nat_eq g h && nat_eq c.args.number n) c.from.ensures)
