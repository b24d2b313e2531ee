use Rattle.std.proofs.{Common.{w32}, lemmas.Int.to_z-of_z}
use Rattle.krs_tables.proofs.MadeFor.{got_made, is_new}
use Rattle.krs_ring_asks.proofs.getting.get_id.Goals as goal
use Rattle.std.proofs.Common.{arith}
use Rattle.std.proofs.lemmas.Grind.{common_steps}

pub returns-in-Some-clause-step : goal.returns-in-Some-clause-step
returns-in-Some-clause-step c = grind (arith, common_steps, to_z-of_z, w32, is_new, got_made)
