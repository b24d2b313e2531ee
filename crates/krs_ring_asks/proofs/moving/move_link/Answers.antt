use Rattle.std.proofs.{Common.{◌∙◌, ◌≡◌, ap, Some, subst, sym, w32, ℕ}, lemmas.Int.to_z-of_z}
use Rattle.krs_model.specs.{Making.made_for, Outcome.Leads, State.Key}
use Rattle.krs_keys.specs.Keys.{seen}
use Rattle.krs_tables.specs.Specials.{Makes}
use Rattle.krs_tables.proofs.MadeFor.{is_new}
use Rattle.krs_ring_asks.specs.Moved.{moved_at, moved_new}
use Rattle.krs_ring_asks.proofs.MovedLinks.{looks_up_moved, move_at_is, move_new_is}
use Rattle.krs_ring_asks.proofs.moving.move_link.Goals as goal

pub returns-in-Some : goal.returns-in-Some
returns-in-Some c =
    let s = c.args.tables.now in
    let x = c.in_ok-context.context.now in
    let special = c.in-Some.special in
    let found : ℕ × Key = (c.in_ok-serial.serial, seen c.in_ok-serial.field-0-1.now) in
    let source : ℕ × Key = (c.in_ok-first.first, seen c.in_ok-first.field-0-1.now) in
    let l = looks_up_moved s c.args.client c.args.number c.args.key c.args.from c.args.flags x found source
    c.ranges.key c.ranges.from c.in_ok-context.ensures c.in_ok-check_flags.ensures c.in_ok-serial.ensures.found
    c.in_ok-first.ensures.found in
    let makes : Makes (Some special) s c.args.number x c.args.to =
    subst (Makes (Some special) s c.args.number x) (to_z-of_z w32 c.args.to c.ranges.to) c.in-Some.ensures.makes in
    let new = is_new special s c.args.client c.args.number x c.args.to makes c.requires.sound c.in_ok-context.ensures in
    let same = move_new_is special s c.args.client c.args.number c.args.key c.args.from c.args.to c.args.flags x found
    source l new
    ∙ (ap (λ (k : ℕ). moved_new special s c.args.client c.args.number k source.0) (sym c.new-serial.ensures)
    ∙ ap (λ (k : ℕ). moved_new special s c.args.client c.args.number c.new-serial.result k)
    (sym c.new-first.ensures)) in
    subst (Leads s c.move_to_new.result c.move_to_new.new.tables) (sym same) c.move_to_new.ensures

pub returns-in-None : goal.returns-in-None
returns-in-None c =
    let s = c.args.tables.now in
    let x = c.in_ok-context.context.now in
    let found : ℕ × Key = (c.in_ok-serial.serial, seen c.in_ok-serial.field-0-1.now) in
    let source : ℕ × Key = (c.in_ok-first.first, seen c.in_ok-first.field-0-1.now) in
    let l = looks_up_moved s c.args.client c.args.number c.args.key c.args.from c.args.flags x found source
    c.ranges.key c.ranges.from c.in_ok-context.ensures c.in_ok-check_flags.ensures c.in_ok-serial.ensures.found
    c.in_ok-first.ensures.found in
    let passed = sym (to_z-of_z w32 c.args.to c.ranges.to) in
    let none : made_for s c.args.number x c.args.to ≡ (s, x) =
    ap (made_for s c.args.number x) passed ∙ c.in-None.ensures.made in
    let same = move_at_is s c.args.client c.args.number c.args.key c.args.from c.args.to c.args.flags x found source l
    none
    ∙ (ap (λ (k : ℕ). moved_at s c.args.client c.args.number k source.0 c.args.to c.args.flags)
    (sym c.new-serial.ensures)
    ∙ (ap (λ (k : ℕ). moved_at s c.args.client c.args.number c.new-serial.result k c.args.to c.args.flags)
    (sym c.new-first.ensures)
    ∙ ap (λ id. moved_at s c.args.client c.args.number c.new-serial.result c.new-first.result id c.args.flags)
    passed)) in
    subst (Leads s c.move_to.result c.move_to.new.tables) (sym same) c.move_to.ensures
