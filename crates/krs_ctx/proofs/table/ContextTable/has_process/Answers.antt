use Rattle.std.proofs.Common.{◌∙◌, ap}
use Rattle.krs_types.specs.declared.context.Context.{Context}
use Rattle.krs_model.specs.{Asks.Leaving.has_process, Table.Table}
use Rattle.krs_ctx.proofs.GroupLemmas.{first_tells}
use Rattle.krs_ctx.proofs.table.ContextTable.has_process.Goals as goal

pub returns : goal.returns
returns c =
    let s = c.self.inside in
    c.is_some.ensures
    ∙ (first_tells (λ x. x.process) s.contexts.entries s.listed.processes c.args.process c.first.result
    c.self.invariant.listed.processes c.self.invariant.rises c.first.ensures.listed c.first.ensures.none
    ∙ ap (λ (es : Table Context). has_process es c.args.process) c.self.view_is)
