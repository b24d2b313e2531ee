use Rattle.std.proofs.Common.{◌&&◌, ◌==◌, ◌≡◌, filter, not}
use Rattle.krs_model.specs.Sweep.{context_roots}
use Rattle.krs_hold.specs.Tally.{all_less}
use Rattle.krs_context_asks.proofs.EnteredHolders.{attached_of}
use Rattle.krs_context_asks.proofs.entering.let_go_others.Given as goal

-- what is left to let go of
abbrev pub invariant-loop-other : goal.invariant-loop-other
invariant-loop-other l =
    all_less (attached_of l.contexts.contexts l.number l.other-iterator) l.holders
    ≡ all_less (context_roots (filter (λ e. (e.1.process == l.process) && not (e.0 == l.number)) l.contexts.contexts))
    l.initial.holders
