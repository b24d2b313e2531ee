use Rattle.std.proofs.Common.{◌∙◌, ap, sym, true≢false}
use Rattle.krs_ctx.specs.{Anchors.Anchors, View.anchors_in}
use Rattle.krs_ctx.proofs.FitLemmas.{taken_back_fit}
use Rattle.krs_ctx.proofs.contexts.Contexts.take_back.Goals as goal

pub invariant_of-self : goal.invariant_of-self
invariant_of-self c = record {
  fit = taken_back_fit (anchors_in c.self.inside) _ c.args.number c.self.invariant.fit
      (ap (λ (t : Anchors). t.next_context) c.self.view_is ∙ c.requires)
      c.remove.ensures.gone c.take_out.ensures.gone c.remove.ensures.contexts c.take_out.ensures.entries
      c.from-self-inside.ensures;
  whole = λ is. absurd (true≢false (sym is));
}
