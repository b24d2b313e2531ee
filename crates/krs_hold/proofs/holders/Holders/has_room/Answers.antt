use Rattle.std.proofs.{Common.{◌+◌, ◌-◌, ◌≡◌, ◌≤◌, arith, nat_le, ℕ}, lemmas.Bool.Decides.nat_tests}
use Rattle.krs_hold.proofs.Numbers.{number_seen}
use Rattle.krs_hold.proofs.holders.Holders.has_room.Goals as goal
use Rattle.std.proofs.lemmas.Grind.{common_steps}

moved : (n more most : ℕ) → more ≤ most → nat_le n (most - more) ≡ nat_le (n + more) most
moved n more most fits = grind (arith, nat_tests)

pub returns : goal.returns
returns c = grind (arith, common_steps, nat_le, number_seen)
