use Rattle.std.proofs.Common.{refl, Some}
use Rattle.krs_types.specs.declared.context.Context.{Context}
use Rattle.krs_ctx.specs.View.{anchors_in}
use Rattle.krs_ctx.proofs.{FitLemmas.altered_fit, WholeLemmas.altered_whole}
use Rattle.krs_ctx.proofs.contexts.Contexts.attach_thread.Goals as goal

pub invariant_of-self : goal.invariant_of-self
invariant_of-self c =
    let f : Context → Context = λ x. record x { thread = Some c.args.ring } in
    record {
      fit = altered_fit (anchors_in c.self.inside) _ c.args.number f (λ x. refl) (λ x. refl) c.self.invariant.fit
          c.set_thread.ensures refl refl;
      whole = λ is. altered_whole (anchors_in c.self.inside) _ c.args.number f (λ x. refl) (λ x. refl)
          c.set_thread.ensures refl refl (c.self.invariant.whole is);
    }
