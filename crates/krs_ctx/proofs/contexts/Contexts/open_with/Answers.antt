use Rattle.std.proofs.Common.{◌∙◌, ◌≡◌, ap, None, refl, sym}
use Rattle.krs_types.specs.declared.context.Context.{Context}
use Rattle.krs_model.specs.Table.{put}
use Rattle.krs_ctx.specs.{Anchors.Anchors, View.anchors_in}
use Rattle.krs_ctx.proofs.{FitLemmas.enter_fit, WholeLemmas.enter_whole}
use Rattle.krs_ctx.proofs.contexts.Contexts.open_with.Goals as goal

pub invariant_of-self-2 : goal.invariant_of-self-2
invariant_of-self-2 c =
    let old = anchors_in c.self.inside in
    let own = c.own_context-context.result in
    let number : c.args.number ≡ old.next_context =
    sym (ap (λ (t : Anchors). t.next_context) c.self.view_is ∙ c.requires) in
    let process = ap (λ (x : Context). x.process) c.own_context-context.ensures ∙ number in
    let contexts = c.in_ok-enter.ensures.context ∙ ap (λ n. put old.contexts n own) number in
    let processes = c.in_ok-enter.ensures.process ∙ ap (λ n. put old.processes n None) number in
    record {
      fit = enter_fit old _ own c.self.invariant.fit process contexts processes refl;
      whole = λ is. enter_whole old _ own c.self.invariant.fit process contexts processes refl
          (c.self.invariant.whole is);
    }
