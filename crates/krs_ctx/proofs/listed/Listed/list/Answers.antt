use Rattle.std.proofs.Common.{sym}
use Rattle.krs_ctx.proofs.ListedLemmas.{accepted, listed_more}
use Rattle.krs_ctx.proofs.listed.Listed.list.Goals as goal

pub returns-clause-ok : goal.returns-clause-ok
returns-clause-ok c = λ es v is absent are.
    listed_more es c.args.self.now
    (record { clients = c.insert.new.self; processes = c.insert-2.new.self; uids = c.insert-3.new.self })
    c.args.number c.args.groups v is absent c.in_ok-insert.ensures.ok
    (accepted c.insert-2.result (sym c.if-is_err.ensures.value) c.insert-2.ensures.ok)
    (accepted c.insert-3.result (sym c.if-is_err-2.ensures.value) c.insert-3.ensures.ok) are
