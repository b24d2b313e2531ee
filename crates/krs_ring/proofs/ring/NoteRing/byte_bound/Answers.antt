use Rattle.std.proofs.Common.{arith}
use Rattle.krs_ring.proofs.SlotsLemmas.{size-waiting, total_room-waiting}
use Rattle.krs_ring.proofs.ring.NoteRing.byte_bound.Goals as goal
use Rattle.std.proofs.lemmas.Grind.{common_steps}

pub returns-clause-value : goal.returns-clause-value
returns-clause-value c = grind (arith, common_steps, total_room-waiting)

pub returns-clause-fits : goal.returns-clause-fits
returns-clause-fits c = grind (arith, common_steps, size-waiting)
