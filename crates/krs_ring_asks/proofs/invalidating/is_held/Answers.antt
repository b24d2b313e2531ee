use Rattle.std.proofs.{Common.{◌≡◌, arith, false, nat_lt, ℕ}, lemmas.Bool.Decides.nat_tests}
use Rattle.krs_ring_asks.proofs.Detaching.{unheld_is_out}
use Rattle.krs_ring_asks.proofs.invalidating.is_held.Goals as goal
use Rattle.std.proofs.lemmas.Grind.{common_steps}

-- a number that is not more than 0 is 0
none : (n : ℕ) → nat_lt 0 n ≡ false → n ≡ 0
none n h = grind (arith, nat_tests)

pub returns : goal.returns
returns c = grind (arith, common_steps, unheld_is_out, none)
