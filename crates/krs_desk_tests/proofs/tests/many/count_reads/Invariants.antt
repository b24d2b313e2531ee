use Rattle.std.proofs.Common.{All}
use Rattle.krs_desk.specs.Sitting.{IsIdleAt}
use Rattle.krs_desk_tests.proofs.tests.many.count_reads.Given as goal

-- the seats that are left are idle
abbrev pub invariant-seats : goal.invariant-seats
invariant-seats g l = All (λ s. IsIdleAt l.initial.desk s) l.left.items
