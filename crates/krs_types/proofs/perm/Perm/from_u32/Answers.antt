use Rattle.std.proofs.Common.{rules}
use Rattle.krs_types.proofs.perm.Perm.from_u32.Goals as goal

pub returns-then-mask : goal.returns-then-mask
returns-then-mask c = search rules

pub invariant_of-result : goal.invariant_of-result
invariant_of-result c = search rules

pub returns : goal.returns
returns c = search rules
