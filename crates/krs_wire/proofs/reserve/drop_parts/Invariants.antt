use Rattle.std.proofs.Common.{◌+◌, ◌≡◌, length, sum_by, vec_capacity}
use Rattle.krs_wire.proofs.reserve.drop_parts.Given as goal

-- what is left and what is gone took as much as all did
abbrev pub invariant-parts : goal.invariant-parts
invariant-parts l = sum_by vec_capacity l.parts.items + l.gone ≡ sum_by vec_capacity l.initial.parts.items

abbrev pub decreases-parts : goal.decreases-parts
decreases-parts l = length l.parts.items
