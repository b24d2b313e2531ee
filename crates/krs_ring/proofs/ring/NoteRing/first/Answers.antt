use Rattle.krs_ring.proofs.SlotsLemmas.{first-notes_of, none-notes_of}
use Rattle.krs_ring.proofs.ring.NoteRing.first.Goals as goal
use Rattle.std.proofs.Common.{arith}
use Rattle.std.proofs.lemmas.Grind.{common_steps}

pub returns-in_err-slot : goal.returns-in_err-slot
returns-in_err-slot c = grind (arith, common_steps, none-notes_of)

pub returns : goal.returns
returns c = grind (arith, common_steps, first-notes_of)
