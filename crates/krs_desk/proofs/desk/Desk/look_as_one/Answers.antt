use Rattle.std.proofs.Common.{subst}
use Rattle.krs_desk.specs.Seated.{Me, SeeOneList}
use Rattle.krs_desk.proofs.desk.Desk.look_as_one.Goals as goal

pub returns-clause-seen : goal.returns-clause-seen
returns-clause-seen c = subst (λ (z : Me × Me). SeeOneList z.0 z.1 c.look.new.first.me c.look.new.second.me)
    (λ i. (c.check.ensures.same i, c.check-2.ensures.same i)) c.look.ensures.seen
