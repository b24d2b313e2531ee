use Rattle.std.proofs.{Common.{◌≡◌, Err, None, Ok, refl, sym, ℕ}, lemmas.Result.err_from_is_err_and}
use Rattle.krs_model.specs.{Asks.Linked.{name_of, nestable}, State.Key}
use Rattle.krs_keys.specs.Keys.{seen}
use Rattle.krs_tables.specs.Linked.{Puts}
use Rattle.krs_tables.proofs.MadeFor.{makes_own}
use Rattle.krs_ring_asks.proofs.LinkAndUnlink.{key_looked_up, link_done, link_failed, looks_up, put_under}
use Rattle.krs_ring_asks.proofs.LinkAndUnlink.{ring_looked_up}
use Rattle.krs_ring_asks.proofs.linking.link_to.Goals as goal

pub check_nesting-requires-clause-ring : goal.check_nesting-requires-clause-ring
check_nesting-requires-clause-ring c =
    rw c.new.ensures (ring_looked_up c.args.tables.now c.args.ring c.in_ok-context.context.now
    (c.in_ok-ring.ring, seen c.in_ok-ring.into.now) _ c.ranges.ring c.in_ok-ring.ensures.found
    c.in_ok-links_of.ensures)

pub check_nesting-requires-clause-key : goal.check_nesting-requires-clause-key
check_nesting-requires-clause-key c =
    rw c.new-2.ensures (key_looked_up c.args.tables.now _ c.in_ok-context.context.now _
    (c.in_ok-serial.serial, seen c.in_ok-serial.found.now) c.in_ok-serial.ensures.found)

pub put_link-requires : goal.put_link-requires
put_link-requires c = record {
  there = rw (
    c.new-4.ensures,
    key_looked_up c.args.tables.now _ c.in_ok-context.context.now _
        (c.in_ok-serial.serial, seen c.in_ok-serial.found.now) c.in_ok-serial.ensures.found,
  ) refl;
  ring = rw c.new-3.ensures (ring_looked_up c.args.tables.now c.args.ring c.in_ok-context.context.now
      (c.in_ok-ring.ring, seen c.in_ok-ring.into.now) _ c.ranges.ring c.in_ok-ring.ensures.found
      c.in_ok-links_of.ensures);
}

pub returns-in_err-put_link : goal.returns-in_err-put_link
returns-in_err-put_link c =
    let s = c.args.tables.now in
    let into : ℕ × Key = (c.in_ok-ring.ring, seen c.in_ok-ring.into.now) in
    let found : ℕ × Key = (c.in_ok-serial.serial, seen c.in_ok-serial.found.now) in
    let nests : nestable s.keys into.0 found.0 ≡ Ok (tt {0}) =
    rw (sym c.new.ensures, sym c.new-2.ensures) c.in_ok-check_nesting.ensures in
    let x = c.in_ok-context.context.now in
    let own = c.in_ok-context.ensures in
    let there = makes_own None s c.args.client c.args.number x c.args.ring own c.requires.there in
    let l =
    looks_up s c.args.client c.args.number c.args.key c.args.ring x into found _ c.ranges.key c.ranges.ring own
    there c.in_ok-ring.ensures.found c.in_ok-serial.ensures.found c.in_ok-links_of.ensures
    c.in_ok-check_open.ensures nests in
    let puts : Puts s (Err c.in_err-put_link.field-0.0) c.put_link.new.tables into.0 (name_of found.1) found.0 =
    put_under s c.put_link.new.tables (Err c.in_err-put_link.field-0.0) into.0 found.0 found.1
    (key_looked_up s _ x _ found c.in_ok-serial.ensures.found)
    (rw (sym c.new-3.ensures, sym c.new-4.ensures) c.in_err-put_link.ensures) in
    let told = link_failed s c.put_link.new.tables c.args.client c.args.number c.args.key c.args.ring x into found
    c.in_err-put_link.field-0.0 l puts in
    let answer =
    err_from_is_err_and c.from_residual-in_err-put_link.result c.from_residual-in_err-put_link.ensures.1 in
    rw (answer.1, answer.2) told

pub returns : goal.returns
returns c =
    let s = c.args.tables.now in
    let into : ℕ × Key = (c.in_ok-ring.ring, seen c.in_ok-ring.into.now) in
    let found : ℕ × Key = (c.in_ok-serial.serial, seen c.in_ok-serial.found.now) in
    let nests : nestable s.keys into.0 found.0 ≡ Ok (tt {0}) =
    rw (sym c.new.ensures, sym c.new-2.ensures) c.in_ok-check_nesting.ensures in
    let x = c.in_ok-context.context.now in
    let own = c.in_ok-context.ensures in
    let there = makes_own None s c.args.client c.args.number x c.args.ring own c.requires.there in
    let l =
    looks_up s c.args.client c.args.number c.args.key c.args.ring x into found _ c.ranges.key c.ranges.ring own
    there c.in_ok-ring.ensures.found c.in_ok-serial.ensures.found c.in_ok-links_of.ensures
    c.in_ok-check_open.ensures nests in
    let puts : Puts s (Ok (tt {0})) c.put_link.new.tables into.0 (name_of found.1) found.0 =
    put_under s c.put_link.new.tables (Ok (tt {0})) into.0 found.0 found.1
    (key_looked_up s _ x _ found c.in_ok-serial.ensures.found)
    (rw (sym c.new-3.ensures, sym c.new-4.ensures) c.in_ok-put_link.ensures) in
    link_done s c.put_link.new.tables c.args.client c.args.number c.args.key c.args.ring x into found l puts
