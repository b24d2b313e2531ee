use Rattle.std.proofs.Common.{◌∙◌, arith, Option, sym, ℕ}
use Rattle.krs_model.proofs.Tables.Changes.{alter_none, alter_some}
use Rattle.krs_ctx.proofs.maps.set_ring.Goals as goal
use Rattle.std.proofs.lemmas.Grind.{common_steps}

pub returns-in-Some : goal.returns-in-Some
returns-in-Some c =
    let f : Option ℕ → Option ℕ = λ was. c.args.ring in
    (c.get_mut.follows.holds (f c.in-Some.was.now)).0
    ∙ alter_some c.args.processes.now.entries c.args.process f c.in-Some.was.now (sym c.in-Some.ensures.value)

pub returns-in-None : goal.returns-in-None
returns-in-None c = grind (arith, common_steps, alter_none)
