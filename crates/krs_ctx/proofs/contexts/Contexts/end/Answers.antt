use Rattle.std.proofs.Common.{arith, refl, sym}
use Rattle.krs_ctx.specs.View.{anchors_in}
use Rattle.krs_ctx.proofs.FitLemmas.{ended_fit, exited_fit}
use Rattle.krs_ctx.proofs.{LeavingLemmas.ended_none, ToldLemmas.without_none, WholeLemmas.{ended_whole, same_whole}}
use Rattle.krs_ctx.proofs.contexts.Contexts.end.Goals as goal
use Rattle.std.proofs.lemmas.Grind.{common_steps}

pub invariant_of-self : goal.invariant_of-self
invariant_of-self c = grind (arith, common_steps, without_none, ended_fit, same_whole)

pub returns-in_default : goal.returns-in_default
returns-in_default c =
    ended_none c.args.self.now (anchors_in c.self.inside) _ c.args.number c.self.view_is
    (sym c.in_default.ensures.value) c.remove.ensures.contexts refl refl refl

pub invariant_of-self-2 : goal.invariant_of-self-2
invariant_of-self-2 c =
    let old = anchors_in c.self.inside in
    record {
      fit = exited_fit old _ c.args.number _ c.self.invariant.fit c.remove.ensures.contexts
          c.end_process.ensures.entries refl;
      whole = λ is. ended_whole old _ c.args.number c.in-Some.context (sym c.in-Some.ensures.value)
          c.remove.ensures.contexts c.end_process.ensures.entries c.end_process.ensures.gone
          c.end_uid.ensures.entries c.end_uid.ensures.gone (c.self.invariant.whole is);
    }
