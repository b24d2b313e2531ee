use Rattle.std.proofs.Common.{◌++◌, ◌+◌, ◌≡◌, ◌≤◌, reverse, vec_capacity, vec_len, zip}
use Rattle.krs_serve.proofs.sessions.jobs_of.Given as goal

-- those that are left come before those that were taken, which stand from the back
abbrev pub invariant-places : goal.invariant-places
invariant-places g l =
    (zip l.entries.items l.free.items ++ reverse l.jobs.items ≡ zip l.fn.list.items l.fn.seats.items)
    × (vec_len l.entries + l._place ≡ l.count) × (vec_len l.free ≡ vec_len l.entries)
    × (vec_len l.jobs ≡ l._place) × (l.count ≤ vec_capacity l.jobs)
