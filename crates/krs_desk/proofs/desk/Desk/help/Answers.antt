use Rattle.std.proofs.Common.{◌∙◌, ap, rules}
use Rattle.krs_desk.specs.Sitting.{Sitting}
use Rattle.krs_desk.proofs.{Helps.{had_hand, helped, within}, KeptTurns.{given_seated, given_view, placed}}
use Rattle.krs_desk.proofs.{Seats.missed_seated, Turns.{brought_seated, in_turn, turn_on}}
use Rattle.krs_desk.proofs.desk.Desk.help.Goals as goal

pub give_back-requires-clause-kept : goal.give_back-requires-clause-kept
give_back-requires-clause-kept c = c.seat.invariant.0.keeps

pub take-requires-clause-rests : goal.take-requires-clause-rests
take-requires-clause-rests c = (given_seated c.seat.invariant.0 c.give_back.ensures.given).rests

pub invariant_of-seat : goal.invariant_of-seat
invariant_of-seat c = (
  placed c.give_back.ensures.none (missed_seated (given_seated c.seat.invariant.0 c.give_back.ensures.given)
      (c.take.ensures.missed c.if-take-ne-FREE.true)),
  search rules,
)

pub look_at_lanes-answered-requires-clause-held : goal.look_at_lanes-answered-requires-clause-held
look_at_lanes-answered-requires-clause-held c = (in_turn (given_seated c.seat.invariant.0 c.give_back.ensures.given)
    (c.take.ensures.had c.if-take-ne-FREE.false)).holds

pub look_at_lanes-answered-requires-clause-hand : goal.look_at_lanes-answered-requires-clause-hand
look_at_lanes-answered-requires-clause-hand c =
    had_hand (given_seated c.seat.invariant.0 c.give_back.ensures.given) (c.take.ensures.had c.if-take-ne-FREE.false)

pub invariant_of-seat-2 : goal.invariant_of-seat-2
invariant_of-seat-2 c =
    let seated = given_seated c.seat.invariant.0 c.give_back.ensures.given in
    let t =
    turn_on (in_turn seated (c.take.ensures.had c.if-take-ne-FREE.false)) c.look_at_lanes-answered.ensures.gone in
    (placed c.give_back.ensures.none (brought_seated t c.bring.ensures.brought), search rules)

pub returns-clause-helped : goal.returns-clause-helped
returns-clause-helped c =
    let seated = given_seated c.seat.invariant.0 c.give_back.ensures.given in
    let view = given_view c.seat.invariant.0 c.seat.view_is c.give_back.ensures.table c.give_back.ensures.given in
    helped view (search rules)
    (within seated c.seat.invariant.1 (ap (λ (s : Sitting). s.table) c.seat.view_is ∙ c.requires.table))
    (c.take.ensures.had c.if-take-ne-FREE.false) c.look_at_lanes-answered.ensures.gone c.bring.ensures.brought
    c.bring.ensures.mine
