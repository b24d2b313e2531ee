use Rattle.std.proofs.Common.{◌∙◌, ◌≡◌, ap, Ok, refl, Some, subst, sym}
use Rattle.krs_types.specs.declared.context.Context.{Context}
use Rattle.krs_model.specs.{Lookup.context_of, Table.{at, put}}
use Rattle.krs_ctx.specs.{Anchors.{anchored, Anchors}, View.anchors_in}
use Rattle.krs_ctx.proofs.FitLemmas.{thread_fit}
use Rattle.krs_ctx.proofs.ToldLemmas.{is_ok, refused, there, thread_accepted, thread_refused, thread_told, wants}
use Rattle.krs_ctx.proofs.WholeLemmas.{thread_whole}
use Rattle.krs_ctx.proofs.contexts.Contexts.thread.Goals as goal

pub returns-in_err-entered : goal.returns-in_err-entered
returns-in_err-entered c =
    refused _ _ _ _ _ c.from_residual-in_err-entered.ensures.1
    (λ s. thread_refused (anchored s c.args.self.now) c.args.client c.args.number c.in_ok-maker.maker.now _
    (c.in_ok-maker.ensures s) (c.in_err-entered.ensures.given s))
    refl

pub returns-in_err-context : goal.returns-in_err-context
returns-in_err-context c =
    wants _ _ _ _ c.from_residual-in_err-context.ensures.1
    (λ s. is_ok _ _
    (thread_accepted (anchored s c.args.self.now) c.args.client c.args.number c.in_ok-maker.maker.now
    (c.in_ok-maker.ensures s) (c.in_ok-entered.ensures.given s)))
    refl

pub returns-in_err-insert : goal.returns-in_err-insert
returns-in_err-insert c =
    wants _ _ _ _ c.from_residual-in_err-insert.ensures.1
    (λ s. is_ok _ _
    (thread_accepted (anchored s c.args.self.now) c.args.client c.args.number c.in_ok-maker.maker.now
    (c.in_ok-maker.ensures s) (c.in_ok-entered.ensures.given s)))
    (rw c.in_err-insert.ensures.err c.self.view_is)

pub invariant_of-self-2 : goal.invariant_of-self-2
invariant_of-self-2 c =
    let old = anchors_in c.self.inside in
    let found : at old.contexts c.args.number ≡ Some c.in_ok-maker.maker.now =
    there old c.args.client c.args.number c.in_ok-maker.maker.now
    (λ s. subst (λ (t : Anchors). context_of (anchored s t) c.args.client c.args.number ≡ Ok
    c.in_ok-maker.maker.now) (sym c.self.view_is) (c.in_ok-maker.ensures s)) in
    let same = ap (λ (x : Context). x.process) c.in_ok-context.ensures in
    let same_uid = ap (λ (x : Context). x.caller.uid) c.in_ok-context.ensures in
    let contexts = c.in_ok-insert.ensures.ok
    ∙ ap (λ n. put old.contexts n c.in_ok-context.context)
    (c.in_ok-entered.ensures.number ∙ ap (λ (t : Anchors). t.next_context) (sym c.self.view_is)) in
    record {
      fit = thread_fit old _ c.args.number c.in_ok-maker.maker.now c.in_ok-context.context c.self.invariant.fit found
          same same_uid contexts refl refl;
      whole = λ is. thread_whole old _ c.in_ok-context.context c.self.invariant.fit contexts refl refl
          (c.self.invariant.whole is);
    }

pub returns : goal.returns
returns c = λ s.
    let m = c.in_ok-maker.maker.now in
    thread_accepted (anchored s c.args.self.now) c.args.client c.args.number m (c.in_ok-maker.ensures s)
    (c.in_ok-entered.ensures.given s)
    ∙ ap Ok (thread_told s c.args.self.now (anchors_in c.self.inside) _ m c.in_ok-context.context
    c.in_ok-entered.entered c.self.view_is
    c.in_ok-insert.ensures.ok refl refl refl c.in_ok-context.ensures c.in_ok-entered.ensures.number)
