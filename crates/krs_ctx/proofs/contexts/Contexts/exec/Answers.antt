use Rattle.std.proofs.Common.{◌∙◌, ◌≡◌, ap, filter, None, Ok, Option, refl, Some, subst, sym, ℕ}
use Rattle.krs_types.specs.declared.context.Context.{Context}
use Rattle.krs_model.specs.{Lookup.context_of, Table.at}
use Rattle.krs_ctx.specs.{Anchors.{anchored, Anchors}, View.anchors_in}
use Rattle.krs_ctx.proofs.{FitLemmas.execed_fit, ToldLemmas.{exec_told, there}, WholeLemmas.execed_whole}
use Rattle.krs_ctx.proofs.contexts.Contexts.exec.Goals as goal

pub invariant_of-self : goal.invariant_of-self
invariant_of-self c =
    let old = anchors_in c.self.inside in
    let own = c.in_ok-process.field-0.now in
    let f : Context → Context = λ x. record x { thread = None } in
    let g : Option ℕ → Option ℕ = λ was. None in
    let found : at old.contexts c.args.number ≡ Some own =
    there old c.args.client c.args.number own
    (λ s. subst (λ (t : Anchors). context_of (anchored s t) c.args.client c.args.number ≡ Ok own)
    (sym c.self.view_is) (c.in_ok-process.ensures s)) in
    let contexts = c.end_others.ensures ∙ ap (filter _) c.set_thread.ensures in
    record {
      fit = execed_fit old _ c.args.number own.process f _ g (λ x. refl) (λ x. refl) c.self.invariant.fit contexts
          c.set_ring.ensures refl;
      whole = λ is. execed_whole old _ c.args.number own.process f g own (λ x. refl) (λ x. refl)
          c.self.invariant.fit found refl contexts c.set_ring.ensures refl (c.self.invariant.whole is);
    }

pub returns : goal.returns
returns c = λ s.
    exec_told s c.args.self.now (anchors_in c.self.inside) _ c.args.client c.args.number c.in_ok-process.field-0.now
    (c.in_ok-process.ensures s) c.self.view_is
    (c.end_others.ensures ∙ ap (filter _) c.set_thread.ensures) c.set_ring.ensures refl refl
