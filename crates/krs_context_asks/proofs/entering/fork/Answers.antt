use Rattle.std.proofs.Common.{◌∙◌, ◌≡◌, ◌≤◌, ap, arith, Ok, refl, subst, sym, ℕ}
use Rattle.krs_model.specs.{Lookup.context_of, State.State, Sweep.roots, Table.Table}
use Rattle.krs_ctx.specs.{Anchors.anchored, Told.enterable}
use Rattle.krs_ctx.proofs.ToldLemmas.{fork_accepted, fork_refused, is_ok}
use Rattle.krs_keys.specs.Keys.{shown}
use Rattle.krs_hold.specs.Tally.{AreExact}
use Rattle.krs_tables.specs.View.{state_of}
use Rattle.krs_tables.proofs.Wanting.{wanting_as}
use Rattle.krs_context_asks.proofs.EnteredHolders.{fork_tallied, refused_as}
use Rattle.krs_context_asks.proofs.entering.fork.Goals as goal

pub returns-in_err-can_enter : goal.returns-in_err-can_enter
returns-in_err-can_enter c =
    refused_as _ _ _ _ c.from_residual-in_err-can_enter.ensures.1
    (fork_refused c.args.tables.now c.args.client c.args.context c.in_ok-session.field-0.now _ c.in_ok-session.ensures
    (ap (λ (t : State). enterable t c.args.client) (sym c.tables.view_is)
    ∙ sym (c.in_err-can_enter.ensures.given (state_of c.tables.inside))))

pub returns-in_err-check_memory : goal.returns-in_err-check_memory
returns-in_err-check_memory c =
    wanting_as c.args.tables.now c.args.tables.now _ _ c.from_residual-in_err-check_memory.ensures.1
    (is_ok _ _ (fork_accepted c.args.tables.now c.args.client c.args.context c.in_ok-session.field-0.now
    c.in_ok-session.ensures
    (ap (λ (t : State). enterable t c.args.client) (sym c.tables.view_is)
    ∙ sym (c.in_ok-can_enter.ensures.given (state_of c.tables.inside))))) refl

pub returns-in_err-check_room : goal.returns-in_err-check_room
returns-in_err-check_room c =
    wanting_as c.args.tables.now c.args.tables.now _ _ c.from_residual-in_err-check_room.ensures.1
    (is_ok _ _ (fork_accepted c.args.tables.now c.args.client c.args.context c.in_ok-session.field-0.now
    c.in_ok-session.ensures
    (ap (λ (t : State). enterable t c.args.client) (sym c.tables.view_is)
    ∙ sym (c.in_ok-can_enter.ensures.given (state_of c.tables.inside))))) refl

pub invariant_of-tables-2 : goal.invariant_of-tables-2
invariant_of-tables-2 c =
    let s = state_of c.tables.inside in
    let keys = c.tables.inside.keys.keys in
    let t = anchored s c.fork.new.self in
    let own = c.in_ok-session.field-0.now in
    let fresh = c.in_ok-can_enter.ensures.fit in
    let last : s.next_context ≤ s.next_context = omega arith in
    let found : context_of s c.args.client c.args.context ≡ Ok own =
    subst (λ (z : State). context_of z c.args.client c.args.context ≡ Ok own) (sym c.tables.view_is)
    c.in_ok-session.ensures in
    record {
      fit = c.tables.invariant.fit;
      kinds = c.tables.invariant.kinds;
      tallied =
          subst (λ (zs : Table ℕ). AreExact keys zs (roots t)) (sym c.hold_of.ensures)
          (fork_tallied (shown keys) s t c.args.client c.args.context c.in_ok-number.number own c.tables.inside.holders
          (fresh.contexts s.next_context last) (fresh.processes s.next_context last) found (c.in_ok-number.ensures s)
          c.tables.invariant.tallied);
    }

pub returns : goal.returns
returns c = rw (← c.tables.view_is) (c.in_ok-number.ensures (state_of c.tables.inside))
