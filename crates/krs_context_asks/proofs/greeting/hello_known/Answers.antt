use Rattle.std.proofs.Common.{◌∙◌, ◌≡◌, ◌≤◌, ap, arith, IsOk, None, refl, Some, subst, sym, ℕ}
use Rattle.krs_model.specs.{Asks.Hello.hello, State.State, Sweep.roots, Table.{at, Table}}
use Rattle.krs_ctx.specs.{Anchors.anchored, Told.enterable}
use Rattle.krs_ctx.proofs.HelloLemmas.{hello_fails, hello_full, hello_known, hello_open, no_serials}
use Rattle.krs_keys.specs.Keys.{shown}
use Rattle.krs_hold.specs.Tally.{AreExact}
use Rattle.krs_tables.specs.View.{state_of}
use Rattle.krs_tables.proofs.Wanting.{wanting_as}
use Rattle.krs_context_asks.proofs.EnteredHolders.{known_tallied, refused_as}
use Rattle.krs_context_asks.proofs.greeting.hello_known.Goals as goal

pub returns-in_err-can_enter : goal.returns-in_err-can_enter
returns-in_err-can_enter c =
    refused_as _ _ _ _ c.from_residual.ensures.1
    (hello_full c.args.tables.now c.args.client c.args.caller _ c.requires.known
    (ap (λ (t : State). enterable t c.args.client) (sym c.tables.view_is)
    ∙ sym (c.in_err-can_enter.ensures.given (state_of c.tables.inside))))

pub returns-in_err-check_memory : goal.returns-in_err-check_memory
returns-in_err-check_memory c =
    wanting_as c.args.tables.now c.args.tables.now _ _ c.from_residual-in_err-check_memory.ensures.1
    (hello_open c.args.tables.now c.args.client c.args.caller c.requires.known
    (ap (λ (t : State). enterable t c.args.client) (sym c.tables.view_is)
    ∙ sym (c.in_ok-can_enter.ensures.given (state_of c.tables.inside)))
    (no_serials c.args.tables.now c.args.caller c.args.rings c.requires.rings)) refl

pub returns-in_err-check_room : goal.returns-in_err-check_room
returns-in_err-check_room c =
    wanting_as c.args.tables.now c.args.tables.now _ _ c.from_residual-in_err-check_room.ensures.1
    (hello_open c.args.tables.now c.args.client c.args.caller c.requires.known
    (ap (λ (t : State). enterable t c.args.client) (sym c.tables.view_is)
    ∙ sym (c.in_ok-can_enter.ensures.given (state_of c.tables.inside)))
    (no_serials c.args.tables.now c.args.caller c.args.rings c.requires.rings)) refl

pub returns-in_err-number : goal.returns-in_err-number
returns-in_err-number c =
    let s = state_of c.tables.inside in
    let there : at s.uids c.args.caller.uid ≡ Some c.args.rings =
    subst (λ (z : State). at z.uids c.args.caller.uid ≡ Some c.args.rings) (sym c.tables.view_is) c.requires.rings in
    let accepted : IsOk (hello s c.args.client c.args.caller) =
    hello_open s c.args.client c.args.caller c.requires.known (sym (c.in_ok-can_enter.ensures.given s))
    (no_serials s c.args.caller c.args.rings there) in
    rw (← c.tables.view_is)
    (hello_fails s c.tables.inside.contexts c.hello.new.self c.args.client c.args.caller None
    c.from_residual-in_err-number.result c.in_err-number.field-0.0 c.requires.known accepted
    c.from_residual-in_err-number.ensures.1 c.in_err-number.ensures.done)

pub invariant_of-tables-2 : goal.invariant_of-tables-2
invariant_of-tables-2 c =
    let s = state_of c.tables.inside in
    let keys = c.tables.inside.keys.keys in
    let t = anchored s c.hello.new.self in
    let fresh = c.in_ok-can_enter.ensures.fit in
    let last : s.next_context ≤ s.next_context = omega arith in
    let there : at s.uids c.args.caller.uid ≡ Some c.args.rings =
    subst (λ (z : State). at z.uids c.args.caller.uid ≡ Some c.args.rings) (sym c.tables.view_is) c.requires.rings in
    record {
      fit = c.tables.invariant.fit;
      kinds = c.tables.invariant.kinds;
      tallied =
          subst (λ (zs : Table ℕ). AreExact keys zs (roots t)) (sym c.hold_of.ensures)
          (known_tallied (shown keys) s t c.args.client c.in_ok-number.number c.args.caller c.args.rings
          c.tables.inside.holders (fresh.contexts s.next_context last) (fresh.processes s.next_context last) there
          (c.in_ok-number.ensures.done s) c.tables.invariant.tallied);
    }

pub returns : goal.returns
returns c =
    let s = state_of c.tables.inside in
    let there : at s.uids c.args.caller.uid ≡ Some c.args.rings =
    subst (λ (z : State). at z.uids c.args.caller.uid ≡ Some c.args.rings) (sym c.tables.view_is) c.requires.rings in
    rw (← c.tables.view_is)
    (hello_known s c.args.client c.args.caller c.args.rings c.requires.known there ∙ c.in_ok-number.ensures.done s)
