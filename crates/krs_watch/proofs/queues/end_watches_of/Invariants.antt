use Rattle.std.proofs.Common.{◌≡◌, filter, not}
use Rattle.krs_watch.specs.Watched.{owns}
use Rattle.krs_watch.proofs.queues.end_watches_of.Given as goal

-- those end that are of the queues so far
abbrev pub invariant-loop-number : goal.invariant-loop-number
invariant-loop-number l =
    filter (λ w. not (owns l.client w.0.1 l.number-iterator)) l.watches
    ≡ filter (λ w. not (owns l.client w.0.1 l.queues.entries)) l.fn.watches
