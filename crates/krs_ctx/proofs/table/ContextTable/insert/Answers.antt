use Rattle.std.proofs.Common.{◌∙◌, ◌≡◌, ap, None, subst, sym}
use Rattle.krs_types.specs.declared.context.Context.{Context}
use Rattle.krs_model.specs.Table.{at, Rises, Table}
use Rattle.krs_model.proofs.Tables.Rising.{put_rises}
use Rattle.krs_ctx.specs.Members.{AreListed}
use Rattle.krs_ctx.proofs.ListedLemmas.{accepted}
use Rattle.krs_ctx.proofs.table.ContextTable.insert.Goals as goal

pub invariant_of-self-else-is_err : goal.invariant_of-self-else-is_err
invariant_of-self-else-is_err c =
    let s = c.self.inside in
    let absent : at s.contexts.entries c.args.number ≡ None =
    ap (λ (es : Table Context). at es c.args.number) c.self.view_is ∙ c.requires in
    record {
      listed = subst (λ (es : Table Context). AreListed es c.list.new.self) (sym c.in_ok-put_new.ensures.ok)
          (accepted c.list.result (sym c.if-is_err.ensures.value) c.list.ensures.ok s.contexts.entries c.args.context
          (sym c.of-groups.ensures) absent c.self.invariant.listed);
      rises = subst (λ (es : Table Context). Rises es) (sym c.in_ok-put_new.ensures.ok)
          (put_rises s.contexts.entries c.args.number c.args.context c.self.invariant.rises);
    }
