use Rattle.std.proofs.Common.{◌∙◌, ap, subst, sym}
use Rattle.krs_types.specs.declared.context.Context.{Context}
use Rattle.krs_model.specs.Table.{at, Rises, Table}
use Rattle.krs_model.proofs.Tables.Rising.{without_rises}
use Rattle.krs_ctx.specs.Members.{AreListed}
use Rattle.krs_ctx.proofs.table.ContextTable.remove.Goals as goal

pub invariant_of-self-2 : goal.invariant_of-self-2
invariant_of-self-2 c =
    let s = c.self.inside in
    let k = c.args.number in
    let is = c.remove.ensures.entries in
    record {
      listed = subst (λ (es : Table Context). AreListed es c.unlist.new.self) (sym is)
          (c.unlist.ensures s.contexts.entries c.in-Some.context (sym c.of.ensures) (sym c.in-Some.ensures.value)
          (ap (λ (es : Table Context). at es k) (sym is) ∙ c.remove.ensures.updates.1) c.self.invariant.listed);
      rises = subst (λ (es : Table Context). Rises es) (sym is)
          (without_rises s.contexts.entries k c.self.invariant.rises);
    }
