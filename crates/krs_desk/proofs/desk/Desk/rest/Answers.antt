use Rattle.std.proofs.Common.{rules}
use Rattle.krs_desk.proofs.KeptTurns.{given_seated, given_view, placed, rests_at}
use Rattle.krs_desk.proofs.desk.Desk.rest.Goals as goal

pub give_back-requires-clause-kept : goal.give_back-requires-clause-kept
give_back-requires-clause-kept c = c.seat.invariant.0.keeps

pub invariant_of-seat : goal.invariant_of-seat
invariant_of-seat c =
    (placed c.give_back.ensures.none (given_seated c.seat.invariant.0 c.give_back.ensures.given), search rules)

pub returns : goal.returns
returns c = rests_at c.give_back.new.token.me
    (given_view c.seat.invariant.0 c.seat.view_is c.give_back.ensures.table c.give_back.ensures.given)
    c.give_back.ensures.none
