use Rattle.std.proofs.Common.{◌+◌, ◌≡◌, ◌≤◌, sum_by, vec_capacity}
use Rattle.krs_wire.proofs.reserve.take_parts.Given as goal

-- the parts take what they took, and what was taken so far, which is no more than was asked for
abbrev pub invariant-parts : goal.invariant-parts
invariant-parts l =
    (sum_by vec_capacity l.parts.items ≡ sum_by vec_capacity l.initial.parts.items + l.taken) × (l.taken ≤ l.bytes)
