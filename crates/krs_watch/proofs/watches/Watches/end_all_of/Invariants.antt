use Rattle.std.proofs.Common.{◌==◌, ◌≡◌, filter, length, not}
use Rattle.krs_watch.proofs.watches.Watches.end_all_of.Given as goal

-- none has ended that was to stay
abbrev pub invariant-ending : goal.invariant-ending
invariant-ending l = filter (λ w. not (w.0.1 == l.number)) l.self ≡ filter (λ w. not (w.0.1 == l.number)) l.fn.self

abbrev pub decreases-ending : goal.decreases-ending
decreases-ending l = length l.self
