use Rattle.std.proofs.Common.{◌≡◌}
use Rattle.krs_model.specs.Sweep.{context_roots}
use Rattle.krs_hold.specs.Tally.{all_less}
use Rattle.krs_ring_asks.specs.Detached.{those}
use Rattle.krs_ring_asks.proofs.invalidating.let_go_contexts.Given as goal

abbrev pub invariant-loop-number : goal.invariant-loop-number
invariant-loop-number l =
    all_less (those l.serial (context_roots l.number-iterator)) l.holders
    ≡ all_less (those l.serial (context_roots l.contexts.entries)) l.initial.holders
