use Rattle.std.proofs.Common.{◌≡◌, filter, not}
use Rattle.krs_model.specs.{Asks.Leaving.has_uid, Sweep.uid_roots}
use Rattle.krs_hold.specs.Tally.{all_less}
use Rattle.krs_context_asks.proofs.leaving.let_go_uids.Given as goal

abbrev pub invariant-loop-uid : goal.invariant-loop-uid
invariant-loop-uid l =
    all_less (uid_roots (filter (λ e. not (has_uid l.contexts.contexts e.0)) l.uid-iterator)) l.holders
    ≡ all_less (uid_roots (filter (λ e. not (has_uid l.contexts.contexts e.0)) l.contexts.uids)) l.initial.holders
