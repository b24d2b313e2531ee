use Rattle.std.proofs.Common.{arith}
use Rattle.krs_ring.proofs.SlotsLemmas.{has_last, last-marked}
use Rattle.krs_ring.proofs.ring.mark_last.Goals as goal

pub returns-in-Some : goal.returns-in-Some
returns-in-Some c =
    last-marked c.args.slots.now c.pop_back.new.self c.push_back.new.self c.in-Some.slot c.requires.full
    c.requires.room
    c.pop_back.ensures.items c.in-Some.ensures.value c.push_back.ensures.items

pub returns-in_default : goal.returns-in_default
returns-in_default c = absurd (has_last c.args.slots.now.items (omega arith) c.in_default.ensures.value)
