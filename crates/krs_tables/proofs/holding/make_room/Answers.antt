use Rattle.std.proofs.Common.{[], subst, sym, ℕ}
use Rattle.krs_model.specs.Table.{Table}
use Rattle.krs_keys.specs.Keys.{shown}
use Rattle.krs_hold.specs.Tally.{AreExact}
use Rattle.krs_hold.proofs.Tallies.{tallied_with}
use Rattle.krs_tables.proofs.holding.make_room.Goals as goal

pub returns-clause-exact : goal.returns-clause-exact
returns-clause-exact c = λ keys a h.
    subst (λ (zs : Table ℕ). AreExact keys zs a) (sym c.in-Ok.ensures.ok)
    (tallied_with (shown keys) a [] c.args.holders.now c.args.serial h)
