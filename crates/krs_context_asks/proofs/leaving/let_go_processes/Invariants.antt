use Rattle.std.proofs.Common.{◌≡◌, filter, not}
use Rattle.krs_model.specs.{Asks.Leaving.has_process, Sweep.process_roots}
use Rattle.krs_hold.specs.Tally.{all_less}
use Rattle.krs_context_asks.proofs.leaving.let_go_processes.Given as goal

abbrev pub invariant-loop-process : goal.invariant-loop-process
invariant-loop-process l =
    all_less (process_roots (filter (λ e. not (has_process l.contexts.contexts e.0)) l.process-iterator)) l.holders
    ≡ all_less (process_roots (filter (λ e. not (has_process l.contexts.contexts e.0)) l.contexts.processes))
    l.initial.holders
