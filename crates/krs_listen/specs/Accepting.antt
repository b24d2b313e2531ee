-- What an acceptor shows: its counts, and what came to it; which of its failures pass; and how many seats there are.
use Rattle.std.specs.Prelude.{◌==◌, ◌||◌, Bool, false, negsuc, None, Option, pos, Some, ℕ, ℤ}
use Rattle.krs_listen.specs.declared.{acceptor.StreamAcceptor.StreamAcceptor, free.FreeSeats.FreeSeats}

-- how many connections it accepted, and how many accepts failed
abbrev pub accepted_by : {L S : Type 0} → StreamAcceptor L S → ℕ
accepted_by a = a.accepted

abbrev pub failed_at : {L S : Type 0} → StreamAcceptor L S → ℕ
failed_at a = a.failures

-- both ends are of one connection, which came from what it listens on
abbrev pub AreEndsFrom : {L S : Type 0} → (came : L → S → Type 0) → (same : S → S → Type 0) → StreamAcceptor L S
    → S × S → Type 0
AreEndsFrom came same a ends = came a.listener ends.0 × same ends.0 ends.1

-- the cause of a failed accept passes by itself, or with the end of a connection: EAGAIN, ENOMEM, ENFILE, EMFILE,
-- ECONNABORTED and ENOBUFS. accept(2), "ERRORS"; asm-generic/errno.h
abbrev pub is_passing : Option ℤ → Bool
is_passing None = false
is_passing (Some (negsuc n)) = false
is_passing (Some (pos n)) = n == 11 || n == 12 || n == 23 || n == 24 || n == 103 || n == 105

-- how many seats there are, those in use among them
abbrev pub seat_count : {S : Type 0} → FreeSeats S → ℕ
seat_count seats = seats.count
