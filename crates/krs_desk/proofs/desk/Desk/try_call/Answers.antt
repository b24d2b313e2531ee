use Rattle.std.proofs.Common.{◌∙◌, ap, rules}
use Rattle.krs_desk.specs.Seated.{Me, part}
use Rattle.krs_desk.proofs.KeptTurns.{given_seated, given_view, may_ask, placed, quiet_at}
use Rattle.krs_desk.proofs.{Seats.missed_seated, Turns.{in_turn, turn_adds, turn_idle, turn_seated}}
use Rattle.krs_desk.proofs.desk.Desk.try_call.Goals as goal

pub give_back-requires-clause-kept : goal.give_back-requires-clause-kept
give_back-requires-clause-kept c = c.seat.invariant.0.keeps

pub take-requires-clause-rests : goal.take-requires-clause-rests
take-requires-clause-rests c = (given_seated c.seat.invariant.0 c.give_back.ensures.given).rests

pub invariant_of-seat : goal.invariant_of-seat
invariant_of-seat c = (
  placed c.give_back.ensures.none (missed_seated (given_seated c.seat.invariant.0 c.give_back.ensures.given)
      (c.take.ensures.missed c.if-take-ne-FREE.true)),
  search rules,
)

pub finish-told-requires-clause-turn : goal.finish-told-requires-clause-turn
finish-told-requires-clause-turn c =
    let view = given_view c.seat.invariant.0 c.seat.view_is c.give_back.ensures.table c.give_back.ensures.given in
    may_ask
    (in_turn (given_seated c.seat.invariant.0 c.give_back.ensures.given) (c.take.ensures.had c.if-take-ne-FREE.false))
    (quiet_at view c.requires.idle)

pub invariant_of-seat-2 : goal.invariant_of-seat-2
invariant_of-seat-2 c =
    let seated = given_seated c.seat.invariant.0 c.give_back.ensures.given in (
      placed c.give_back.ensures.none
          (turn_seated (in_turn seated (c.take.ensures.had c.if-take-ne-FREE.false)) c.finish-told.ensures.finished),
      search rules,
    )

pub returns-clause-added : goal.returns-clause-added
returns-clause-added c =
    let seated = given_seated c.seat.invariant.0 c.give_back.ensures.given in
    let view = given_view c.seat.invariant.0 c.seat.view_is c.give_back.ensures.table c.give_back.ensures.given in
    rw c.reply_in.ensures (turn_adds view (search rules) (in_turn seated (c.take.ensures.had c.if-take-ne-FREE.false))
    c.finish-told.ensures.finished)

pub returns-clause-idle : goal.returns-clause-idle
returns-clause-idle c =
    let seated = given_seated c.seat.invariant.0 c.give_back.ensures.given in
    let view = given_view c.seat.invariant.0 c.seat.view_is c.give_back.ensures.table c.give_back.ensures.given in
    turn_idle (in_turn seated (c.take.ensures.had c.if-take-ne-FREE.false)) c.finish-told.ensures.finished
    (quiet_at view c.requires.idle)

pub returns-clause-alone : goal.returns-clause-alone
returns-clause-alone c =
    let had = c.take.ensures.had c.if-take-ne-FREE.false in
    ap (λ (k : Me). (part k).checked) c.finish-told.ensures.finished.has ∙ ap (λ (k : Me). (part k).checked) had.has
