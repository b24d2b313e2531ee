use Rattle.std.proofs.Common.{◌∙◌, ◌≡◌, ap, Ok, option_to_list, subst, sym, ℕ}
use Rattle.krs_model.specs.Lookup.{context_of}
use Rattle.krs_model.specs.{Possession.process_ring, State.State, Sweep.roots, Table.Table}
use Rattle.krs_ctx.specs.Anchors.{anchored}
use Rattle.krs_keys.specs.Keys.{shown}
use Rattle.krs_hold.specs.Tally.{all_less, AreExact}
use Rattle.krs_tables.specs.View.{state_of}
use Rattle.krs_context_asks.proofs.EnteredHolders.{exec_accepted, exec_tallied}
use Rattle.krs_context_asks.proofs.entering.exec.Goals as goal

pub invariant_of-tables : goal.invariant_of-tables
invariant_of-tables c =
    let s = state_of c.tables.inside in
    let own = c.in_ok-own.own.now in
    let found : context_of s c.args.client c.args.context ≡ Ok own =
    subst (λ (z : State). context_of z c.args.client c.args.context ≡ Ok own) (sym c.tables.view_is)
    c.in_ok-own.ensures in
    absurd (exec_accepted s c.args.client c.args.context own _ found (c.in_err-exec.ensures.0 s))

pub returns-in_err-exec-clause-step : goal.returns-in_err-exec-clause-step
returns-in_err-exec-clause-step c =
    let s = state_of c.tables.inside in
    let own = c.in_ok-own.own.now in
    let found : context_of s c.args.client c.args.context ≡ Ok own =
    subst (λ (z : State). context_of z c.args.client c.args.context ≡ Ok own) (sym c.tables.view_is)
    c.in_ok-own.ensures in
    absurd (exec_accepted s c.args.client c.args.context own _ found (c.in_err-exec.ensures.0 s))

pub invariant_of-tables-2 : goal.invariant_of-tables-2
invariant_of-tables-2 c =
    let s = state_of c.tables.inside in
    let keys = c.tables.inside.keys.keys in
    let t = anchored s c.exec.new.self in
    let own = c.in_ok-own.own.now in
    let found : context_of s c.args.client c.args.context ≡ Ok own =
    subst (λ (z : State). context_of z c.args.client c.args.context ≡ Ok own) (sym c.tables.view_is)
    c.in_ok-own.ensures in
    let ring : c.process_ring-ring.result ≡ process_ring s own.process =
    c.process_ring-ring.ensures ∙ ap (λ (z : State). process_ring z own.process) (sym c.tables.view_is) in
    record {
      fit = c.tables.invariant.fit;
      kinds = c.tables.invariant.kinds;
      tallied =
          subst (λ (zs : Table ℕ). AreExact keys zs (roots t))
          (sym (c.let_go_of-2.ensures
          ∙ (ap (λ o. all_less (option_to_list o) c.let_go_of.new.self) ring
          ∙ ap (all_less (option_to_list (process_ring s own.process))) (c.let_go_of.ensures
          ∙ ap (all_less (option_to_list own.thread)) c.let_go_others.ensures))))
          (exec_tallied (shown keys) s t c.args.client c.args.context own c.tables.inside.holders found
          (c.in_ok-exec.ensures s) c.tables.invariant.tallied);
    }

pub returns-clause-step : goal.returns-clause-step
returns-clause-step c = rw (← c.tables.view_is) (c.in_ok-exec.ensures (state_of c.tables.inside))
