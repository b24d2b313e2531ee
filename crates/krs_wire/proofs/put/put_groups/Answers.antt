use Rattle.std.proofs.Common.{◌<◌, arith, length, refl, rules}
use Rattle.krs_wire.proofs.CountLemmas.{length_numbers}
use Rattle.krs_wire.proofs.put.put_groups.Goals as goal

pub returns-then-numbers-gt-MAX_LENGTH-clause-long : goal.returns-then-numbers-gt-MAX_LENGTH-clause-long
returns-then-numbers-gt-MAX_LENGTH-clause-long c =
    let long : 65536 < length c.args.groups.now = search rules in
    λ other. (refl, omega (arith, length_numbers c.args.groups.now, long))
