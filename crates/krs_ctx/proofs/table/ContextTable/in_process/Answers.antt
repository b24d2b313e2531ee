use Rattle.std.proofs.Common.{◌∙◌, ap}
use Rattle.krs_types.specs.declared.context.Context.{Context}
use Rattle.krs_model.specs.Table.{Table}
use Rattle.krs_ctx.specs.Members.{contexts_in, placed}
use Rattle.krs_ctx.proofs.GroupLemmas.{pairs_are}
use Rattle.krs_ctx.proofs.table.ContextTable.in_process.Goals as goal

pub returns-clause-all : goal.returns-clause-all
returns-clause-all c =
    let s = c.self.inside in
    c.of.ensures.pairs
    ∙ (pairs_are (λ x. x.process) s.contexts.entries s.listed.processes c.args.process c.self.invariant.listed.processes
    c.self.invariant.rises c.of.ensures.rising
    ∙ ap (λ (es : Table Context). placed c.args.process (contexts_in c.args.process es)) c.self.view_is)
