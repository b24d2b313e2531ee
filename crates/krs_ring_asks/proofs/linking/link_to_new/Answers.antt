use Rattle.std.proofs.Common.{◌∙◌, ◌≡◌, ap, Err, false, Ok, refl, Some, subst, sym, true, w32, ℕ}
use Rattle.std.proofs.lemmas.{Int.to_z-of_z, Result.err_from_is_err_and}
use Rattle.krs_types.specs.{Rights.LINK, declared.{ask.Answer.TheVariants.Nothing, rights.Want.TheVariants.Granted}}
use Rattle.krs_model.specs.{Lookup.look_up, Outcome.Leads, State.Key}
use Rattle.krs_keys.specs.Keys.{seen}
use Rattle.krs_tables.specs.Specials.{is_coming, linking_made}
use Rattle.krs_tables.proofs.MadeFor.{is_new, link_linking, link_to_itself, link_unlooked, makes_own}
use Rattle.krs_ring_asks.proofs.linking.link_to_new.Goals as goal

pub returns-then-is_coming : goal.returns-then-is_coming
returns-then-is_coming c =
    let s = c.args.tables.now in
    let x = c.in_ok-context.context.now in
    let own = c.in_ok-context.ensures in
    let makes = makes_own (Some c.args.special) s c.args.client c.args.number x c.args.ring own c.requires.makes in
    let new = is_new c.args.special s c.args.client c.args.number x c.args.ring makes c.requires.sound own in
    let passed = sym (to_z-of_z w32 c.args.key c.ranges.key) in
    let coming : is_coming c.args.special s.next_serial c.args.key ≡ true =
    ap (is_coming c.args.special s.next_serial) passed ∙ (sym c.is_coming.ensures ∙ c.if-is_coming.true) in
    (link_to_itself c.args.special s c.args.client c.args.number x c.args.key c.args.ring new own coming, refl)

pub returns-in_err-serial : goal.returns-in_err-serial
returns-in_err-serial c =
    let s = c.args.tables.now in
    let x = c.in_ok-context.context.now in
    let own = c.in_ok-context.ensures in
    let makes = makes_own (Some c.args.special) s c.args.client c.args.number x c.args.ring own c.requires.makes in
    let new = is_new c.args.special s c.args.client c.args.number x c.args.ring makes c.requires.sound own in
    let passed = sym (to_z-of_z w32 c.args.key c.ranges.key) in
    let coming : is_coming c.args.special s.next_serial c.args.key ≡ false =
    ap (is_coming c.args.special s.next_serial) passed ∙ (sym c.is_coming.ensures ∙ c.if-is_coming.false) in
    let unlooked : look_up s x c.args.key (Granted LINK) ≡ Err c.in_err-serial.field-0.0 =
    rw passed c.in_err-serial.ensures.found in
    let told = link_unlooked c.args.special s c.args.client c.args.number x c.args.key c.args.ring
    c.in_err-serial.field-0.0 new own coming unlooked in
    let answer = err_from_is_err_and c.from_residual-in_err-serial.result
    c.from_residual-in_err-serial.ensures.1 in
    rw (answer.1, answer.2) (told, refl)

pub returns : goal.returns
returns c =
    let s = c.args.tables.now in
    let x = c.in_ok-context.context.now in
    let own = c.in_ok-context.ensures in
    let makes = makes_own (Some c.args.special) s c.args.client c.args.number x c.args.ring own c.requires.makes in
    let new = is_new c.args.special s c.args.client c.args.number x c.args.ring makes c.requires.sound own in
    let passed = sym (to_z-of_z w32 c.args.key c.ranges.key) in
    let coming : is_coming c.args.special s.next_serial c.args.key ≡ false =
    ap (is_coming c.args.special s.next_serial) passed ∙ (sym c.is_coming.ensures ∙ c.if-is_coming.false) in
    let found : ℕ × Key = (c.in_ok-serial.serial, seen c.in_ok-serial.field-0-1.now) in
    let looked : look_up s x c.args.key (Granted LINK) ≡ Ok found =
    ap (λ id. look_up s x id (Granted LINK)) passed ∙ c.in_ok-serial.ensures.found in
    let same = link_linking c.args.special s c.args.client c.args.number x c.args.key c.args.ring found new own coming
    looked
    ∙ ap (λ k. linking_made c.args.special s c.args.client c.args.number k Nothing) (sym c.new.ensures) in
    subst (Leads s c.make_linking.result c.make_linking.new.self) (sym same) c.make_linking.ensures
