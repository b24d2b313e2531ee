use Rattle.std.proofs.Common.{[], ◌∙◌, ◌≡◌, ap, cond, Ok, Option, option_to_list, subst, sym, ℕ}
use Rattle.krs_types.specs.declared.context.UidRings.{UidRings}
use Rattle.krs_model.specs.Asks.Leaving.{has_process, has_uid}
use Rattle.krs_model.specs.{Lookup.context_of, Possession.process_ring, State.State, Sweep.roots, Table.{at, Table}}
use Rattle.krs_ctx.specs.Anchors.{anchored}
use Rattle.krs_keys.specs.Keys.{shown}
use Rattle.krs_hold.specs.Tally.{all_less, AreExact}
use Rattle.krs_tables.specs.{Holding.rings_of, View.state_of}
use Rattle.krs_context_asks.proofs.EndedHolders.{ended_ring, exit_tallied}
use Rattle.krs_context_asks.proofs.leaving.exit.Goals as goal

pub invariant_of-tables-2 : goal.invariant_of-tables-2
invariant_of-tables-2 c =
    let s = state_of c.tables.inside in
    let keys = c.tables.inside.keys.keys in
    let t = anchored s c.exit.new.self in
    let own = c.in_ok-own.own.now in
    let found : context_of s c.args.client c.args.context ≡ Ok own =
    subst (λ (z : State). context_of z c.args.client c.args.context ≡ Ok own) (sym c.tables.view_is)
    c.in_ok-own.ensures in
    let ring : c.process_ring-ring.result ≡ process_ring s own.process =
    c.process_ring-ring.ensures ∙ ap (λ (z : State). process_ring z own.process) (sym c.tables.view_is) in
    let process : Option ℕ → Table ℕ = λ o.
    all_less (cond (has_process t.contexts own.process) [] (option_to_list o)) c.let_go_of-2.new.self in
    let uid : Option UidRings → Table ℕ = λ o.
    all_less (cond (has_uid t.contexts own.caller.uid) [] (rings_of o)) c.let_go_process.new.holders in
    record {
      fit = c.tables.invariant.fit;
      kinds = c.tables.invariant.kinds;
      tallied =
          subst (λ (zs : Table ℕ). AreExact keys zs (roots t))
          (sym (c.let_go_uid.ensures
          ∙ (ap uid c.rings-rings.ensures
          ∙ ap (all_less (cond (has_uid t.contexts own.caller.uid) [] (rings_of (at s.uids own.caller.uid))))
          (c.let_go_process.ensures
          ∙ (ap process ring
          ∙ ap (all_less (ended_ring s t own))
          (c.let_go_of-2.ensures ∙ ap (all_less (option_to_list own.session)) c.let_go_of.ensures))))))
          (exit_tallied (shown keys) s t c.args.client c.args.context own c.tables.inside.holders found
          (c.in_ok-exit.ensures s) c.tables.invariant.tallied);
    }

pub returns-clause-step : goal.returns-clause-step
returns-clause-step c = rw (← c.tables.view_is) (c.in_ok-exit.ensures (state_of c.tables.inside))
