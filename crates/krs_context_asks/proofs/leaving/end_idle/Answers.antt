use Rattle.std.proofs.Common.{◌∙◌, ◌≡◌, ap, filter, not, subst, sym, ℕ}
use Rattle.krs_model.specs.Asks.Leaving.{contexts_without, has_process, has_uid}
use Rattle.krs_model.specs.{State.State, Sweep.{roots, uid_roots}, Table.Table}
use Rattle.krs_ctx.specs.{Anchors.{anchored, Anchors}, Told.without_idle}
use Rattle.krs_keys.specs.Keys.{shown}
use Rattle.krs_hold.specs.Tally.{all_less, AreExact}
use Rattle.krs_tables.specs.View.{state_of}
use Rattle.krs_context_asks.proofs.LeftStates.{idle_tallied, left_is_idle}
use Rattle.krs_context_asks.proofs.leaving.end_idle.Goals as goal

pub invariant_of-tables : goal.invariant_of-tables
invariant_of-tables c =
    let s = c.tables.inside in
    let t = s.contexts in
    let us = uid_roots (filter (λ e. not (has_uid t.contexts e.0)) t.uids) in
    let none = subst (λ (z : State). contexts_without c.args.client z.contexts ≡ z.contexts) (sym c.tables.view_is)
    c.requires in
    let is : c.leave.new.self ≡ without_idle t =
    left_is_idle c.args.client t c.leave.new.self none (state_of s) (c.leave.ensures (state_of s)) in
    record {
      fit = c.tables.invariant.fit;
      kinds = c.tables.invariant.kinds;
      tallied =
          subst (λ (a : Anchors). AreExact s.keys.keys c.let_go_uids.new.holders (roots (anchored (state_of s) a)))
          (sym is)
          (subst (λ (zs : Table ℕ). AreExact s.keys.keys zs (roots (anchored (state_of s) (without_idle t))))
          (sym (c.let_go_uids.ensures ∙ ap (all_less us) c.let_go_processes.ensures))
          (idle_tallied (shown s.keys.keys) t.contexts t.processes t.uids (λ e. has_process t.contexts e.0)
          (λ e. has_uid t.contexts e.0) s.holders c.tables.invariant.tallied));
    }

pub returns : goal.returns
returns c =
    let s = state_of c.tables.inside in
    let none = subst (λ (z : State). contexts_without c.args.client z.contexts ≡ z.contexts) (sym c.tables.view_is)
    c.requires in
    rw (← c.tables.view_is)
    (ap (anchored s)
    (left_is_idle c.args.client c.tables.inside.contexts c.leave.new.self none s (c.leave.ensures s)))
