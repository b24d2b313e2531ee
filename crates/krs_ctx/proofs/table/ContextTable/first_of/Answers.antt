use Rattle.std.proofs.Common.{◌==◌, ◌≡◌, IfNone, IfSome, not, subst}
use Rattle.krs_types.specs.declared.context.Context.{Context}
use Rattle.krs_model.specs.{Asks.Leaving.contexts_without, Table.Table}
use Rattle.krs_ctx.specs.Members.{IsThereFailing}
use Rattle.krs_ctx.proofs.GroupLemmas.{first_fails, none_fails}
use Rattle.krs_ctx.proofs.table.ContextTable.first_of.Goals as goal

pub returns-clause-there : goal.returns-clause-there
returns-clause-there c =
    let s = c.self.inside in
    subst (λ (es : Table Context). IfSome c.first.result (IsThereFailing (λ e. not (e.1.client == c.args.client)) es))
    c.self.view_is
    (first_fails (λ x. x.client) s.contexts.entries s.listed.clients c.args.client c.first.result
    c.self.invariant.listed.clients c.first.ensures.listed)

pub returns-clause-none : goal.returns-clause-none
returns-clause-none c =
    let s = c.self.inside in
    subst (λ (es : Table Context). IfNone c.first.result (contexts_without c.args.client es ≡ es)) c.self.view_is
    (none_fails (λ x. x.client) s.contexts.entries s.listed.clients c.args.client c.first.result
    c.self.invariant.listed.clients c.self.invariant.rises c.first.ensures.none)
