use Rattle.std.proofs.Common.{sym}
use Rattle.krs_keys.proofs.KeysLemmas.{finds_by_name}
use Rattle.krs_tables.proofs.tables.Tables.key.Goals as goal

pub returns-in-Some-clause-named : goal.returns-in-Some-clause-named
returns-in-Some-clause-named c =
    rw (← c.self.view_is) (finds_by_name c.self.inside.keys.keys c.args.serial c.in-Some.key.now c.self.invariant.fit
    (sym c.in-Some.ensures))
