use Rattle.std.proofs.Common.{◌∙◌, ap}
use Rattle.krs_types.specs.declared.context.Context.{Context}
use Rattle.krs_model.specs.{Asks.Leaving.has_uid, Table.Table}
use Rattle.krs_ctx.proofs.GroupLemmas.{first_tells}
use Rattle.krs_ctx.proofs.table.ContextTable.has_uid.Goals as goal

pub returns : goal.returns
returns c =
    let s = c.self.inside in
    c.is_some.ensures
    ∙ (first_tells (λ x. x.caller.uid) s.contexts.entries s.listed.uids c.args.uid c.first.result
    c.self.invariant.listed.uids c.self.invariant.rises c.first.ensures.listed c.first.ensures.none
    ∙ ap (λ (es : Table Context). has_uid es c.args.uid) c.self.view_is)
