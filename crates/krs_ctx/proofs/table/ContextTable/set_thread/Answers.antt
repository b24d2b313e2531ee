use Rattle.std.proofs.Common.{refl, subst, sym}
use Rattle.krs_types.specs.declared.context.Context.{Context}
use Rattle.krs_model.specs.Table.{Rises, Table}
use Rattle.krs_model.proofs.Tables.Rising.{alter_rises}
use Rattle.krs_ctx.specs.Members.{AreListed}
use Rattle.krs_ctx.proofs.ListedLemmas.{listed_altered}
use Rattle.krs_ctx.proofs.table.ContextTable.set_thread.Goals as goal

pub invariant_of-self : goal.invariant_of-self
invariant_of-self c =
    let s = c.self.inside in
    let f : Context → Context = λ x. record x { thread = c.args.ring } in
    record {
      listed = subst (λ (es : Table Context). AreListed es s.listed) (sym c.set_thread.ensures)
          (listed_altered s.contexts.entries s.listed c.args.number f (λ x. refl) c.self.invariant.listed);
      rises = subst (λ (es : Table Context). Rises es) (sym c.set_thread.ensures)
          (alter_rises s.contexts.entries c.args.number f c.self.invariant.rises);
    }
