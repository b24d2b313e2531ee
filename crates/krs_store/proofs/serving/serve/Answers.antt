use Rattle.std.proofs.{Common.{◌∙◌, ap, refl, rules, SFits, subst, sym, w32, ℤ}, lemmas.Int.to_z-of_z}
use Rattle.krs_types.specs.declared.ask.Op.{Op, TheVariants.Read}
use Rattle.krs_model.specs.State.{State}
use Rattle.krs_tables.specs.Serving.{LeadsTold}
use Rattle.krs_store.specs.Telling.{Runs}
use Rattle.krs_store.proofs.Noting.{quiet_told, unwatched_told}
use Rattle.krs_store.proofs.serving.serve.Goals as goal

pub returns-then-not-has_watches-clause-told : goal.returns-then-not-has_watches-clause-told
returns-then-not-has_watches-clause-told c =
    unwatched_told c.args.tables.now c.run-then-not-has_watches.new.tables c.args.client c.args.ask.context
    c.args.ask.op c.run-then-not-has_watches.result
    (sym (ap (λ (t : State). t.watches) c.tables.view_is) ∙ c.has_watches.ensures.0 c.if-not-has_watches.true)
    c.run-then-not-has_watches.ensures.step

pub returns-then-not-tells-clause-told : goal.returns-then-not-tells-clause-told
returns-then-not-tells-clause-told c =
    quiet_told c.args.tables.now c.run.new.tables c.args.client c.args.ask.context c.args.ask.op c.run.result
    (sym c.tells.ensures ∙ c.if-not-tells.true) c.run.ensures.step

pub returns-in-Read-clause-told : goal.returns-in-Read-clause-told
returns-in-Read-clause-told c =
    let s = c.args.tables.now in
    let context = c.args.ask.context in
    let fits : SFits w32 c.in-Read.id = search rules in
    let step : Runs s c.args.client context (Read c.in-Read.id) c.read.result s =
    subst (λ (id : ℤ). Runs s c.args.client context (Read id) c.read.result s)
    (to_z-of_z w32 c.in-Read.id fits) c.read.ensures in
    subst (λ (op : Op). LeadsTold s c.args.client context op c.read.result s) (sym c.in-Read.is)
    (quiet_told s s c.args.client context (Read c.in-Read.id) c.read.result refl step)
