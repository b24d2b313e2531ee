-- The ends of a daemon.
use Rattle.std.proofs.Common.{inl, inr, ℕ}
use Rattle.krs_listen.specs.{Daemon.{SaysAsItEnds, SaysAsItEndsBy}, Saying.Heard}

-- whatever its acceptor counted, that is one of the daemon's ends
pub ends_as : (connections accepted failures : ℕ) (old new old_errors new_errors : Heard) (status : ℕ)
    → SaysAsItEndsBy connections accepted failures old new old_errors new_errors status
    → SaysAsItEnds connections old new old_errors new_errors status
ends_as connections accepted failures old new old_errors new_errors status ends = elim ends [
  | inl served ↦ inl (served.1, served.2, served.3)
  | inr failed ↦ inr (failed.1, failed.2, failed.3)
]
