use Rattle.std.proofs.Common.{refl}
use Rattle.krs_model.specs.Asks.Invalidating.{context_without, detached, rings_without}
use Rattle.krs_ctx.specs.View.{anchors_in}
use Rattle.krs_ctx.proofs.{FitLemmas.mapped_fit, WholeLemmas.mapped_whole}
use Rattle.krs_ctx.proofs.contexts.Contexts.detach.Goals as goal

pub invariant_of-self : goal.invariant_of-self
invariant_of-self c =
    let serial = c.args.serial in
    record {
      fit = mapped_fit (anchors_in c.self.inside) _ (context_without serial) (detached serial) (λ x. refl) (λ x. refl)
          c.self.invariant.fit c.detach.ensures c.detach_processes.ensures refl;
      whole = λ is. mapped_whole (anchors_in c.self.inside) _ (context_without serial) (detached serial)
          (rings_without serial) (λ x. refl) (λ x. refl) c.detach.ensures c.detach_processes.ensures
          c.detach_uids.ensures (c.self.invariant.whole is);
    }
