use Rattle.std.proofs.Common.{◌∙◌, ap, arith, refl, subst}
use Rattle.krs_model.specs.{Asks.Leaving.left, State.State}
use Rattle.krs_ctx.specs.{Anchors.{anchored, anchors_of, IsWhole}, Told.without_idle}
use Rattle.krs_ctx.proofs.LeavingLemmas.{left_idle, whole_left}
use Rattle.krs_tables.specs.View.{state_of}
use Rattle.krs_context_asks.proofs.LeftStates.{left_state}
use Rattle.krs_context_asks.proofs.leaving.leave.Goals as goal
use Rattle.std.proofs.lemmas.Grind.{common_steps}

pub invariant_of-tables : goal.invariant_of-tables
invariant_of-tables c = grind (arith, common_steps)

pub returns-then-not-is_whole : goal.returns-then-not-is_whole
returns-then-not-is_whole c =
    let s = state_of c.tables.inside in
    let t = c.end_contexts.new.tables in
    let a = without_idle (anchors_of t) in
    left_state s c.end_idle.new.tables c.args.client c.leave.new.self a c.leave.ensures
    (c.end_idle.ensures ∙ ap (λ (z : State). anchored z a) c.end_contexts.ensures.rest)
    (left_idle c.args.client (anchors_of s) (anchors_of t) a c.end_contexts.ensures.leaving c.end_contexts.ensures.all
    refl)
    ∙ ap (λ (z : State). left z c.args.client) c.tables.view_is

pub returns-else-not-is_whole : goal.returns-else-not-is_whole
returns-else-not-is_whole c =
    let s = state_of c.tables.inside in
    let t = c.end_contexts.new.tables in
    let whole : IsWhole (anchors_of t) =
    subst (λ (z : State). IsWhole (anchors_of z)) c.tables-2.view_is (c.if-not-is_whole.ensures refl) in
    left_state s t c.args.client c.leave.new.self (anchors_of t) c.leave.ensures c.end_contexts.ensures.rest
    (whole_left c.args.client (anchors_of s) (anchors_of t) c.end_contexts.ensures.leaving c.end_contexts.ensures.all
    whole)
    ∙ ap (λ (z : State). left z c.args.client) c.tables.view_is
