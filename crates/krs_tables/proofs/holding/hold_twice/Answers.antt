use Rattle.std.proofs.Common.{◌+◌, ◌≤◌, arith, subst, sym, ℕ}
use Rattle.krs_model.specs.Table.{Table}
use Rattle.krs_hold.specs.Tally.{number_at}
use Rattle.krs_hold.proofs.Tallies.{number_more}
use Rattle.krs_tables.proofs.holding.hold_twice.Goals as goal

pub hold-requires-2 : goal.hold-requires-2
hold-requires-2 c =
    let more : number_at c.hold.new.self c.args.serial ≤ number_at c.args.holders.now c.args.serial + 1 =
    subst (λ (zs : Table ℕ). number_at zs c.args.serial ≤ number_at c.args.holders.now c.args.serial + 1)
    (sym c.hold.ensures) (number_more c.args.holders.now c.args.serial) in
    omega (arith, more, c.requires)
