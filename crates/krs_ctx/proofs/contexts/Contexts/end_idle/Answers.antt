use Rattle.std.proofs.Common.{refl}
use Rattle.krs_ctx.specs.View.{anchors_in}
use Rattle.krs_ctx.proofs.{FitLemmas.idle_fit, WholeLemmas.idle_whole}
use Rattle.krs_ctx.proofs.contexts.Contexts.end_idle.Goals as goal

pub invariant_of-self : goal.invariant_of-self
invariant_of-self c =
    let old = anchors_in c.self.inside in
    record {
      fit = idle_fit old _ c.self.invariant.fit refl c.drop_processes.ensures refl;
      whole = λ is. idle_whole old _ refl c.drop_processes.ensures c.drop_uids.ensures;
    }
