use Rattle.std.proofs.Common.{◌==◌, ◌∙◌, ap, count_by}
use Rattle.std.specs.Map.{values_of}
use Rattle.krs_types.specs.declared.context.Context.{Context}
use Rattle.krs_model.specs.Table.{Table}
use Rattle.krs_ctx.proofs.GroupLemmas.{counted}
use Rattle.krs_ctx.proofs.table.ContextTable.count.Goals as goal

pub returns : goal.returns
returns c =
    let s = c.self.inside in
    c.count.ensures.count
    ∙ (counted (λ x. x.client) s.contexts.entries s.listed.clients c.args.client c.self.invariant.listed.clients
    c.self.invariant.rises c.count.ensures.rising
    ∙ ap (λ (es : Table Context). count_by (λ x. x.client == c.args.client) (values_of es)) c.self.view_is)
