use Rattle.std.proofs.{Common.{refl, rules, SFits, subst, sym, w32, ℤ}, lemmas.Int.to_z-of_z}
use Rattle.krs_types.specs.declared.ask.Op.{Op, TheVariants.Read}
use Rattle.krs_tables.specs.Serving.{LeadsTold}
use Rattle.krs_key_asks.specs.Taking.{answered}
use Rattle.krs_store.specs.Telling.{Runs}
use Rattle.krs_store.proofs.Noting.{quiet_told}
use Rattle.krs_store.proofs.serving.serve_into.Goals as goal

pub returns-in-Read-clause-told : goal.returns-in-Read-clause-told
returns-in-Read-clause-told g c =
    let s = c.args.tables.now in
    let context = c.args.ask.context in
    let result = answered c.read_into.result in
    let fits : SFits w32 c.in-Read.id = search rules in
    let step : Runs s c.args.client context (Read c.in-Read.id) result s =
    subst (λ (id : ℤ). Runs s c.args.client context (Read id) result s)
    (to_z-of_z w32 c.in-Read.id fits) c.read_into.ensures.told in
    subst (λ (op : Op). LeadsTold s c.args.client context op result s) (sym c.in-Read.is)
    (quiet_told s s c.args.client context (Read c.in-Read.id) result refl step)
