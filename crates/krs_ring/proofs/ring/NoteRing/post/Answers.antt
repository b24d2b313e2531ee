use Rattle.std.proofs.Common.{arith}
use Rattle.krs_ring.proofs.SlotsLemmas.{after_post-dropped, after_post-kept, HasNoLoss-append, HasNoLoss-marked}
use Rattle.krs_ring.proofs.SlotsLemmas.{kept-last}
use Rattle.krs_ring.proofs.ring.NoteRing.post.Goals as goal
use Rattle.std.proofs.lemmas.Grind.{common_steps}

pub invariant_of-self : goal.invariant_of-self
invariant_of-self c = grind (arith, common_steps, kept-last, HasNoLoss-append)

pub invariant_of-self-else-len-capacity : goal.invariant_of-self-else-len-capacity
invariant_of-self-else-len-capacity c = grind (arith, common_steps, HasNoLoss-marked)

pub returns-then-len-capacity : goal.returns-then-len-capacity
returns-then-len-capacity c = grind (arith, common_steps, after_post-kept, kept-last)

pub returns-else-len-capacity : goal.returns-else-len-capacity
returns-else-len-capacity c =
    rw (← c.self.view_is) (after_post-dropped c.self.inside.owed c.self.inside.slots c.mark_last.new.slots c.args.note
    c.self.invariant.kept (omega arith) c.self.invariant.room c.mark_last.ensures)
