use Rattle.std.proofs.Common.{◌∙◌, ap}
use Rattle.krs_model.specs.{Asks.Invalidating.invalidated, State.State}
use Rattle.krs_ring_asks.proofs.KeyDetached.{detached_told}
use Rattle.krs_ring_asks.proofs.invalidating.detach_whole.Goals as goal

pub invariant_of-tables : goal.invariant_of-tables
invariant_of-tables c =
    (detached_told c.tables.inside c.args.serial _ _ _ c.tables.invariant c.unlink_all.ensures c.detach.ensures
    c.let_go_whole.ensures).sound

pub returns : goal.returns
returns c =
    (detached_told c.tables.inside c.args.serial _ _ _ c.tables.invariant c.unlink_all.ensures c.detach.ensures
    c.let_go_whole.ensures).is
    ∙ ap (λ (s : State). invalidated s c.args.serial) c.tables.view_is
