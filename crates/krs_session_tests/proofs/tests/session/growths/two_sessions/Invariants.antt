use Rattle.std.proofs.Common.{◌≡◌, All}
use Rattle.krs_session.specs.Over.{over_empties, over_failures, over_reads}
use Rattle.krs_session_tests.proofs.tests.session.growths.two_sessions.Given as goal

-- nothing was read or written yet
abbrev pub invariant-sessions : goal.invariant-sessions
invariant-sessions l =
    All (λ entry. (over_reads entry.reader ≡ 0) × (over_empties entry.reader ≡ 0)
    × (over_failures entry.reader ≡ 0) × (over_failures entry.writer ≡ 0)) l.list.items
