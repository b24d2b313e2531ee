use Rattle.std.proofs.Common.{arith, rules}
use Rattle.krs_desk.proofs.KeptTurns.{goes_finished, in_kept_turn, kept_looked, may_ask, placed, placed_on, turn_called}
use Rattle.krs_desk.proofs.Turns.{turn_on, turn_seated}
use Rattle.krs_desk.proofs.desk.Desk.call_in_kept_turn.Goals as goal

pub answer_posted-requires-clause-held : goal.answer_posted-requires-clause-held
answer_posted-requires-clause-held g c = (c.seat.invariant.0.keeps (search rules)).holds

pub answer_posted-requires-clause-idle : goal.answer_posted-requires-clause-idle
answer_posted-requires-clause-idle g c = (c.seat.invariant.0.keeps (search rules)).quiet

pub go_on-told-requires-clause-turn : goal.go_on-told-requires-clause-turn
go_on-told-requires-clause-turn g c =
    may_ask (turn_on (in_kept_turn (search rules) c.seat.invariant.0) c.answer_posted.ensures.gone.goes)
    (c.seat.invariant.0.keeps (search rules)).quiet

pub finish-told-requires-clause-turn : goal.finish-told-requires-clause-turn
finish-told-requires-clause-turn g c =
    may_ask (turn_on (in_kept_turn (search rules) c.seat.invariant.0) c.answer_posted.ensures.gone.goes)
    (c.seat.invariant.0.keeps (search rules)).quiet

pub invariant_of-seat : goal.invariant_of-seat
invariant_of-seat g c = (
  placed_on _ (λ no. absurd (omega arith))
      (turn_on (in_kept_turn (search rules) c.seat.invariant.0) c.answer_posted.ensures.gone.goes)
      (c.seat.invariant.0.keeps (search rules)).quiet c.go_on-told.ensures.gone,
  search rules,
)

pub returns-then-may_keep-clause-called : goal.returns-then-may_keep-clause-called
returns-then-may_keep-clause-called g c =
    let t = turn_on (in_kept_turn (search rules) c.seat.invariant.0) c.answer_posted.ensures.gone.goes in
    let f = goes_finished c.go_on-told.ensures.gone in
    turn_called c.seat.view_is (search rules) c.requires.idle.1 t f
    (kept_looked c.seat.view_is c.answer_posted.ensures.gone f) (search rules)

pub invariant_of-seat-2 : goal.invariant_of-seat-2
invariant_of-seat-2 g c =
    let t = turn_on (in_kept_turn (search rules) c.seat.invariant.0) c.answer_posted.ensures.gone.goes in
    (placed (search rules) (turn_seated t c.finish-told.ensures.finished), search rules)

pub returns-clause-called : goal.returns-clause-called
returns-clause-called g c =
    let t = turn_on (in_kept_turn (search rules) c.seat.invariant.0) c.answer_posted.ensures.gone.goes in
    let f = c.finish-told.ensures.finished in
    turn_called c.seat.view_is (search rules) c.requires.idle.1 t f
    (kept_looked c.seat.view_is c.answer_posted.ensures.gone f) (search rules)
