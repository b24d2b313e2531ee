use Rattle.std.proofs.{Common.{◌∙◌, ◌≡◌, ◌≤◌, ap, arith, sym}, lemmas.Bool.Decides.nat_tests}
use Rattle.krs_model.specs.State.{State}
use Rattle.krs_tables.proofs.{MadeKeyrings.has_place, MadeTwo.{adding_accepted, adding_told}, Wanting.wanting_as}
use Rattle.krs_tables.proofs.tables.Tables.make_adding.Goals as goal

pub make_two-requires-clause-place : goal.make_two-requires-clause-place
make_two-requires-clause-place c =
    has_place c.args.special c.args.self.now c.args.client c.args.number c.in_ok-context.context.now c.of-maker.result
    c.requires.sound c.in_ok-context.ensures c.of-maker.ensures c.requires.missing

pub returns : goal.returns
returns c =
    let next : c.args.self.now.next_serial ≡ c.next.result =
    ap (λ (t : State). t.next_serial) (sym c.self.view_is) ∙ sym c.next.ensures.value in
    let left : c.args.self.now.next_serial ≤ 2147483646 =
    rw next (grind (arith, nat_tests, c.if-next-ge-LAST_SERIAL.false)) in
    adding_told c.args.special c.args.self.now c.make_two.new.self c.args.client c.args.number c.number.result
    c.args.name c.args.payload c.in_ok-context.context.now c.of-maker.result c.in_ok-context.ensures
    c.of-maker.ensures left c.in_ok-serial.ensures.ok (c.number.ensures ∙ c.in_ok-serial.ensures.serial)

pub returns-in_err-serial : goal.returns-in_err-serial
returns-in_err-serial c =
    let next : c.args.self.now.next_serial ≡ c.next.result =
    ap (λ (t : State). t.next_serial) (sym c.self.view_is) ∙ sym c.next.ensures.value in
    let left : c.args.self.now.next_serial ≤ 2147483646 =
    rw next (grind (arith, nat_tests, c.if-next-ge-LAST_SERIAL.false)) in
    wanting_as _ _ _ _ c.from_residual-in_err-serial.ensures.1
    (adding_accepted c.args.special c.args.self.now c.args.client c.args.number c.args.name c.args.payload
    c.in_ok-context.context.now c.in_ok-context.ensures left)
    c.in_err-serial.ensures.err
