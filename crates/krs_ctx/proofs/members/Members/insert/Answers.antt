use Rattle.std.proofs.Common.{◌&&◌, ◌∙◌, ap, cond, nat_eq, true}
use Rattle.krs_ctx.specs.Members.{lists}
use Rattle.krs_ctx.proofs.MembersLemmas.{tied}
use Rattle.krs_ctx.proofs.members.Members.insert.Goals as goal

pub returns-clause-ok : goal.returns-clause-ok
returns-clause-ok c = λ h n.
    c.in_ok-insert.ensures.updates.0 (h, n)
    ∙ ap (λ b. cond b true (lists c.args.self.now h n))
    (tied c.from.result c.args.number (h, n) ∙ ap (λ g. nat_eq g h && nat_eq c.args.number n) c.from.ensures)
