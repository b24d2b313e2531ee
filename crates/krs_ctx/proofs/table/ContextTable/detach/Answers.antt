use Rattle.std.proofs.Common.{refl, subst, sym}
use Rattle.krs_types.specs.declared.context.Context.{Context}
use Rattle.krs_model.specs.{Asks.Invalidating.context_without, Table.{Rises, Table}}
use Rattle.krs_model.proofs.Tables.Rising.{map_rises}
use Rattle.krs_ctx.specs.Members.{AreListed}
use Rattle.krs_ctx.proofs.ListedLemmas.{listed_mapped}
use Rattle.krs_ctx.proofs.table.ContextTable.detach.Goals as goal

pub invariant_of-self : goal.invariant_of-self
invariant_of-self c =
    let s = c.self.inside in
    let f : Context → Context = context_without c.args.serial in
    record {
      listed = subst (λ (es : Table Context). AreListed es s.listed) (sym c.detach_contexts.ensures)
          (listed_mapped s.contexts.entries s.listed f (λ x. refl) c.self.invariant.listed);
      rises = subst (λ (es : Table Context). Rises es) (sym c.detach_contexts.ensures)
          (map_rises f s.contexts.entries c.self.invariant.rises);
    }
