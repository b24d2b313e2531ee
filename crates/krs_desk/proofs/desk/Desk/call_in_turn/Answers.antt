use Rattle.std.proofs.Common.{arith, rules}
use Rattle.krs_desk.proofs.KeptTurns.{goes_finished, may_ask, none_kept, placed, placed_on, quiet_at}
use Rattle.krs_desk.proofs.KeptTurns.{turn_called}
use Rattle.krs_desk.proofs.{KeptTurns.unkept, Seats.missed_seated, Turns.{in_turn, turn_looked, turn_on, turn_seated}}
use Rattle.krs_desk.proofs.desk.Desk.call_in_turn.Goals as goal

pub take-requires-clause-rests : goal.take-requires-clause-rests
take-requires-clause-rests g c = (unkept c.seat.invariant.0 c.seat.view_is c.requires.rested).rests

pub invariant_of-seat : goal.invariant_of-seat
invariant_of-seat g c = (
  placed (none_kept c.seat.view_is c.requires.rested)
      (missed_seated (unkept c.seat.invariant.0 c.seat.view_is c.requires.rested)
      (c.take.ensures.missed c.if-take-ne-FREE.true)),
  search rules,
)

pub answer_posted-requires-clause-held : goal.answer_posted-requires-clause-held
answer_posted-requires-clause-held g c = (in_turn (unkept c.seat.invariant.0 c.seat.view_is c.requires.rested)
    (c.take.ensures.had c.if-take-ne-FREE.false)).holds

pub answer_posted-requires-clause-idle : goal.answer_posted-requires-clause-idle
answer_posted-requires-clause-idle g c =
    let t =
    in_turn (unkept c.seat.invariant.0 c.seat.view_is c.requires.rested) (c.take.ensures.had c.if-take-ne-FREE.false) in
    (may_ask t (quiet_at c.seat.view_is c.requires.idle.1)).idle

pub go_on-told-requires-clause-turn : goal.go_on-told-requires-clause-turn
go_on-told-requires-clause-turn g c =
    let t =
    in_turn (unkept c.seat.invariant.0 c.seat.view_is c.requires.rested) (c.take.ensures.had c.if-take-ne-FREE.false) in
    may_ask (turn_on t c.answer_posted.ensures.gone.goes) (quiet_at c.seat.view_is c.requires.idle.1)

pub finish-requires-clause-turn : goal.finish-requires-clause-turn
finish-requires-clause-turn g c =
    let t =
    in_turn (unkept c.seat.invariant.0 c.seat.view_is c.requires.rested) (c.take.ensures.had c.if-take-ne-FREE.false) in
    may_ask (turn_on t c.answer_posted.ensures.gone.goes) (quiet_at c.seat.view_is c.requires.idle.1)

pub invariant_of-seat-then-may_keep : goal.invariant_of-seat-then-may_keep
invariant_of-seat-then-may_keep g c =
    let t =
    in_turn (unkept c.seat.invariant.0 c.seat.view_is c.requires.rested)
    (c.take.ensures.had c.if-take-ne-FREE.false) in (
      placed_on 1 (λ no. absurd (omega arith)) (turn_on t c.answer_posted.ensures.gone.goes)
          (quiet_at c.seat.view_is c.requires.idle.1) c.go_on-told.ensures.gone,
      search rules,
    )

pub returns-then-may_keep-clause-called : goal.returns-then-may_keep-clause-called
returns-then-may_keep-clause-called g c =
    let had = c.take.ensures.had c.if-take-ne-FREE.false in
    let gone = c.answer_posted.ensures.gone in
    let t = turn_on (in_turn (unkept c.seat.invariant.0 c.seat.view_is c.requires.rested) had) gone.goes in
    let f = goes_finished c.go_on-told.ensures.gone in
    turn_called c.seat.view_is (search rules) c.requires.idle.1 t f
    (turn_looked c.seat.view_is had gone f)
    (search rules)

pub invariant_of-seat-2 : goal.invariant_of-seat-2
invariant_of-seat-2 g c =
    let t =
    in_turn (unkept c.seat.invariant.0 c.seat.view_is c.requires.rested)
    (c.take.ensures.had c.if-take-ne-FREE.false) in (
      placed (none_kept c.seat.view_is c.requires.rested)
          (turn_seated (turn_on t c.answer_posted.ensures.gone.goes) c.finish.ensures.finished),
      search rules,
    )

pub returns-clause-called : goal.returns-clause-called
returns-clause-called g c =
    let had = c.take.ensures.had c.if-take-ne-FREE.false in
    let gone = c.answer_posted.ensures.gone in
    let t = turn_on (in_turn (unkept c.seat.invariant.0 c.seat.view_is c.requires.rested) had) gone.goes in
    let f = c.finish.ensures.finished in
    turn_called c.seat.view_is (search rules) c.requires.idle.1 t f
    (turn_looked c.seat.view_is had gone f)
    (search rules)
