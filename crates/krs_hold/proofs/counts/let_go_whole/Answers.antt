use Rattle.std.proofs.Common.{arith, replicate}
use Rattle.krs_keys.proofs.HashedLemmas.{at_by_serial, by_serial_written}
use Rattle.krs_hold.proofs.Emptied.{chained, emptied_whole, same_chain}
use Rattle.krs_hold.proofs.counts.let_go_whole.Goals as goal
use Rattle.std.proofs.lemmas.Grind.{common_steps}

pub returns-in-Some : goal.returns-in-Some
returns-in-Some c =
    grind (arith, common_steps, at_by_serial, by_serial_written, chained, replicate, emptied_whole, same_chain)

pub returns-in-None : goal.returns-in-None
returns-in-None c = grind (arith, common_steps, at_by_serial, chained, replicate, same_chain)
