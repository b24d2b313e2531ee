use Rattle.std.proofs.{Common.{◌<◌, ◌∙◌, ◌≡◌, ◌≤◌, ap, arith, refl, sym}, lemmas.Bool.Decides.nat_tests}
use Rattle.krs_model.specs.State.{State}
use Rattle.krs_ctx.specs.Told.{enterable}
use Rattle.krs_ctx.proofs.HelloLemmas.{hello_full, hello_open, hello_serials, two_serials}
use Rattle.krs_tables.specs.View.{state_of}
use Rattle.krs_tables.proofs.Wanting.{wanting_as}
use Rattle.krs_context_asks.proofs.EnteredHolders.{refused_as}
use Rattle.krs_context_asks.proofs.greeting.hello_first.Goals as goal

pub returns-in_err-can_enter : goal.returns-in_err-can_enter
returns-in_err-can_enter c =
    refused_as _ _ _ _ c.from_residual.ensures.1
    (hello_full c.args.tables.now c.args.client c.args.caller _ c.requires.known
    (ap (λ (t : State). enterable t c.args.client) (sym c.tables.view_is)
    ∙ sym (c.in_err-can_enter.ensures.given (state_of c.tables.inside))))

pub returns-then-first-gt-LAST_OF_TWO : goal.returns-then-first-gt-LAST_OF_TWO
returns-then-first-gt-LAST_OF_TWO c =
    let next : c.args.tables.now.next_serial ≡ c.next-first.result =
    ap (λ (t : State). t.next_serial) (sym c.tables.view_is) ∙ sym c.next-first.ensures.value in
    let gone : 2147483646 < c.args.tables.now.next_serial =
    rw next (grind (arith, nat_tests, c.if-first-gt-LAST_OF_TWO.true)) in (
      hello_serials c.args.tables.now c.args.client c.args.caller c.requires.known c.requires.absent gone
          (ap (λ (t : State). enterable t c.args.client) (sym c.tables.view_is)
          ∙ sym (c.in_ok-can_enter.ensures.given (state_of c.tables.inside))),
      refl,
    )

pub returns-in_err-user : goal.returns-in_err-user
returns-in_err-user c =
    let next : c.args.tables.now.next_serial ≡ c.next-first.result =
    ap (λ (t : State). t.next_serial) (sym c.tables.view_is) ∙ sym c.next-first.ensures.value in
    let left : c.args.tables.now.next_serial ≤ 2147483646 =
    rw next (grind (arith, nat_tests, c.if-first-gt-LAST_OF_TWO.false)) in
    wanting_as c.args.tables.now c.args.tables.now _ _ c.from_residual-in_err-user.ensures.1
    (hello_open c.args.tables.now c.args.client c.args.caller c.requires.known
    (ap (λ (t : State). enterable t c.args.client) (sym c.tables.view_is)
    ∙ sym (c.in_ok-can_enter.ensures.given (state_of c.tables.inside)))
    (two_serials c.args.tables.now c.args.caller c.requires.absent left)) refl

pub open_first-requires-clause-accepted : goal.open_first-requires-clause-accepted
open_first-requires-clause-accepted c =
    let next : c.args.tables.now.next_serial ≡ c.next-first.result =
    ap (λ (t : State). t.next_serial) (sym c.tables.view_is) ∙ sym c.next-first.ensures.value in
    let left : c.args.tables.now.next_serial ≤ 2147483646 =
    rw next (grind (arith, nat_tests, c.if-first-gt-LAST_OF_TWO.false)) in
    hello_open c.args.tables.now c.args.client c.args.caller c.requires.known
    (ap (λ (t : State). enterable t c.args.client) (sym c.tables.view_is)
    ∙ sym (c.in_ok-can_enter.ensures.given (state_of c.tables.inside)))
    (two_serials c.args.tables.now c.args.caller c.requires.absent left)
