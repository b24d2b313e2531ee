use Rattle.std.proofs.Common.{◌∙◌, ap}
use Rattle.krs_ctx.specs.Members.{pairs_of}
use Rattle.krs_ctx.proofs.MembersLemmas.{range_is}
use Rattle.krs_ctx.proofs.members.Members.of.Goals as goal

pub returns-clause-pairs : goal.returns-clause-pairs
returns-clause-pairs c =
    c.range.ensures.between tt
    ∙ (range_is c.from-first.result c.args.self.now.pairs.keys
    ∙ ap (pairs_of c.args.self.now) c.from-first.ensures)
