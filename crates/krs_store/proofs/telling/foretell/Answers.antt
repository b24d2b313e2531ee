use Rattle.std.proofs.{Common.{FitsSigned, rules, w32}, lemmas.Int.to_z-of_z}
use Rattle.krs_store.proofs.Noting.{add_foretold}
use Rattle.krs_store.proofs.telling.foretell.Goals as goal

pub returns-in-Add : goal.returns-in-Add
returns-in-Add c =
    let fits : FitsSigned w32 c.in-Add.ring = search rules in
    rw (c.in-Add.is, c.about_added.ensures, to_z-of_z w32 c.in-Add.ring fits)
    (add_foretold c.args.tables.now c.args.client c.args.context c.in-Add.type_name c.in-Add.desc c.in-Add.payload
    c.in-Add.ring c.requires.sound)
