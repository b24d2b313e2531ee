use Rattle.std.proofs.Common.{◌≡◌, All}
use Rattle.krs_session.specs.Over.{over_empties, over_failures, over_reads}
use Rattle.krs_session_tests.proofs.tests.serve.entries_of.Given as goal

-- nothing was read or written yet
abbrev pub invariant-texts : goal.invariant-texts
invariant-texts g l =
    All (λ entry. (over_reads entry.reader ≡ 0) × (over_empties entry.reader ≡ 0)
    × (over_failures entry.reader ≡ 0) × (entry.writer.failures ≡ 0)) l.list.items
