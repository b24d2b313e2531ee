use Rattle.std.proofs.{Common.{Err, IsSome, Ok, rules, sym, ℕ}, lemmas.Result.err_from_is_err_and}
use Rattle.krs_model.specs.{State.Key, Table.at}
use Rattle.krs_keys.specs.Keys.{seen}
use Rattle.krs_tables.specs.Linked.{Takes}
use Rattle.krs_ring_asks.proofs.LinkAndUnlink.{looks_for, unlink_done, unlink_failed}
use Rattle.krs_ring_asks.proofs.linking.unlink.Goals as goal

pub returns-in_err-take_link-clause-step : goal.returns-in_err-take_link-clause-step
returns-in_err-take_link-clause-step c =
    let s = c.args.tables.now in
    let from : ℕ × Key = (c.in_ok-ring.ring, seen c.in_ok-ring.from.now) in
    let there : IsSome (at s.keys c.in_ok-serial.serial) = search rules in
    let l =
    looks_for s c.args.client c.args.context c.args.key c.args.ring c.in_ok-context.context.now from
    c.in_ok-serial.serial _ c.ranges.key c.ranges.ring c.in_ok-context.ensures c.in_ok-ring.ensures.found
    c.in_ok-serial.ensures there c.in_ok-links_of.ensures in
    let takes : Takes s (Err c.in_err-take_link.field-0.0) c.take_link.new.tables from.0 c.in_ok-serial.serial =
    rw (sym c.new.ensures) c.in_err-take_link.ensures in
    let told =
    unlink_failed s c.take_link.new.tables c.args.client c.args.context c.args.key c.args.ring
    c.in_ok-context.context.now from c.in_ok-serial.serial c.in_err-take_link.field-0.0 l takes in
    let answer =
    err_from_is_err_and c.from_residual-in_err-take_link.result c.from_residual-in_err-take_link.ensures.1 in
    rw (answer.1, answer.2) told

pub returns-clause-step : goal.returns-clause-step
returns-clause-step c =
    let s = c.args.tables.now in
    let from : ℕ × Key = (c.in_ok-ring.ring, seen c.in_ok-ring.from.now) in
    let there : IsSome (at s.keys c.in_ok-serial.serial) = search rules in
    let l =
    looks_for s c.args.client c.args.context c.args.key c.args.ring c.in_ok-context.context.now from
    c.in_ok-serial.serial _ c.ranges.key c.ranges.ring c.in_ok-context.ensures c.in_ok-ring.ensures.found
    c.in_ok-serial.ensures there c.in_ok-links_of.ensures in
    let takes : Takes s (Ok (tt {0})) c.take_link.new.tables from.0 c.in_ok-serial.serial =
    rw (sym c.new.ensures) c.in_ok-take_link.ensures in
    unlink_done s c.take_link.new.tables c.args.client c.args.context c.args.key c.args.ring c.in_ok-context.context.now
    from c.in_ok-serial.serial l takes
