use Rattle.std.proofs.Common.{◌==◌, ◌≡◌}
use Rattle.std.specs.List.{list_any}
use Rattle.krs_watch.proofs.queues.is_watched.Given as goal

abbrev pub invariant-loop-place : goal.invariant-loop-place
invariant-loop-place l =
    list_any (λ w. w.0.0 == l.key) l.place-iterator ≡ list_any (λ w. w.0.0 == l.key) l.watches.entries
