use Rattle.krs_ctx.proofs.ListedLemmas.{listed_less}
use Rattle.krs_ctx.proofs.listed.Listed.unlist.Goals as goal

pub returns : goal.returns
returns c = λ es v is there gone are.
    listed_less es c.args.self.now
    (record { clients = c.remove.new.self; processes = c.remove-2.new.self; uids = c.remove-3.new.self })
    c.args.number c.args.groups v is there gone c.remove.ensures c.remove-2.ensures c.remove-3.ensures are
