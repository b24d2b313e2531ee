use Rattle.krs_keys.proofs.HashedLemmas.{by_serial_same}
use Rattle.krs_hold.proofs.holders.give_back.Goals as goal
use Rattle.std.proofs.Common.{arith}
use Rattle.std.proofs.lemmas.Grind.{common_steps}

pub returns-then-len-room : goal.returns-then-len-room
returns-then-len-room c = grind (arith, common_steps, by_serial_same)
