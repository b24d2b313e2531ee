use Rattle.krs_desk.specs.Sitting.{IsIdleAt}
use Rattle.krs_desk_tests.proofs.tests.kept.count_free.Given as goal

abbrev pub invariant-loop : goal.invariant-loop
invariant-loop g l = IsIdleAt l.initial.first.table l.first × IsIdleAt l.initial.second.table l.second
