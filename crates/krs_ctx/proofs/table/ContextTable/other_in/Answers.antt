use Rattle.std.proofs.Common.{◌==◌, ◌||◌, ◌≡◌, filter, IfNone, IfSome, not, subst}
use Rattle.krs_types.specs.declared.context.Context.{Context}
use Rattle.krs_model.specs.Table.{Table}
use Rattle.krs_ctx.specs.Members.{IsThereFailing}
use Rattle.krs_ctx.proofs.GroupLemmas.{no_other_fails, other_fails}
use Rattle.krs_ctx.proofs.table.ContextTable.other_in.Goals as goal

pub returns-clause-there : goal.returns-clause-there
returns-clause-there c =
    let s = c.self.inside in
    subst (λ (es : Table Context). IfSome c.other.result
    (IsThereFailing (λ e. not (e.1.process == c.args.process) || (e.0 == c.args.number)) es))
    c.self.view_is
    (other_fails (λ x. x.process) s.contexts.entries s.listed.processes c.args.process c.args.number c.other.result
    c.self.invariant.listed.processes c.other.ensures.listed c.other.ensures.other)

pub returns-clause-none : goal.returns-clause-none
returns-clause-none c =
    let s = c.self.inside in
    subst (λ (es : Table Context). IfNone c.other.result
    (filter (λ e. not (e.1.process == c.args.process) || (e.0 == c.args.number)) es ≡ es))
    c.self.view_is
    (no_other_fails (λ x. x.process) s.contexts.entries s.listed.processes c.args.process c.args.number
    c.other.result c.self.invariant.listed.processes c.self.invariant.rises c.other.ensures.none)
