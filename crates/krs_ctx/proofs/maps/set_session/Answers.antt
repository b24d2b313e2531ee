use Rattle.std.proofs.Common.{◌∙◌, arith, sym}
use Rattle.krs_types.specs.declared.context.Context.{Context}
use Rattle.krs_model.proofs.Tables.Changes.{alter_none, alter_some}
use Rattle.krs_ctx.proofs.maps.set_session.Goals as goal
use Rattle.std.proofs.lemmas.Grind.{common_steps}

pub returns-in-Some : goal.returns-in-Some
returns-in-Some c =
    let f : Context → Context = λ x. record x { session = c.args.ring } in
    (c.get_mut.follows.holds (f c.in-Some.context.now)).0
    ∙ alter_some c.args.contexts.now.entries c.args.number f c.in-Some.context.now (sym c.in-Some.ensures.value)

pub returns-in-None : goal.returns-in-None
returns-in-None c = grind (arith, common_steps, alter_none)
