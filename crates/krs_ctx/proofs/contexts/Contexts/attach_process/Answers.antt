use Rattle.std.proofs.Common.{refl, Some}
use Rattle.krs_ctx.specs.View.{anchors_in}
use Rattle.krs_ctx.proofs.{FitLemmas.ring_fit, WholeLemmas.ring_whole}
use Rattle.krs_ctx.proofs.contexts.Contexts.attach_process.Goals as goal

pub invariant_of-self : goal.invariant_of-self
invariant_of-self c = record {
  fit = ring_fit (anchors_in c.self.inside) _ c.args.process (λ was. Some c.args.ring) c.self.invariant.fit refl
      c.set_ring.ensures refl;
  whole = λ is. ring_whole (anchors_in c.self.inside) _ c.args.process (λ was. Some c.args.ring) refl
      c.set_ring.ensures refl (c.self.invariant.whole is);
}
