use Rattle.std.proofs.Common.{All}
use Rattle.krs_desk.specs.Sitting.{IsIdleAt}
use Rattle.krs_desk_tests.proofs.tests.many.groups_of.Given as goal

-- the seats that are left are idle, and so are those of the groups
abbrev pub invariant-groups : goal.invariant-groups
invariant-groups l = All (λ s. IsIdleAt l.initial.desk s) l.left.items
    × All (λ v. All (λ s. IsIdleAt l.initial.desk s) v.items) l.groups.items
