use Rattle.std.proofs.Common.{rules}
use Rattle.krs_desk.specs.declared.slot.SlotValue.TheVariants.{Empty}
use Rattle.krs_desk.proofs.KeptTurns.{given_seated, given_view, placed, quiet_at}
use Rattle.krs_desk.proofs.{Posts.{posted_is, posted_seated, posts_at, posts_is}, Seats.{front, own_slot}}
use Rattle.krs_desk.proofs.desk.Desk.post.Goals as goal

pub give_back-requires-clause-kept : goal.give_back-requires-clause-kept
give_back-requires-clause-kept c = c.seat.invariant.0.keeps

pub exchange-requires : goal.exchange-requires
exchange-requires c =
    let seated = given_seated c.seat.invariant.0 c.give_back.ensures.given in
    let view = given_view c.seat.invariant.0 c.seat.view_is c.give_back.ensures.table c.give_back.ensures.given in
    (search rules, (Empty, front (own_slot seated (quiet_at view c.requires.idle))))

pub store-requires : goal.store-requires
store-requires c =
    let seated = given_seated c.seat.invariant.0 c.give_back.ensures.given in
    let view = given_view c.seat.invariant.0 c.seat.view_is c.give_back.ensures.table c.give_back.ensures.given in (
      search rules,
      search rules,
      posts_at _ _ _ seated (quiet_at view c.requires.idle) c.exchange.ensures.3 (search rules),
    )

pub invariant_of-seat : goal.invariant_of-seat
invariant_of-seat c =
    let seated = given_seated c.seat.invariant.0 c.give_back.ensures.given in
    let view = given_view c.seat.invariant.0 c.seat.view_is c.give_back.ensures.table c.give_back.ensures.given in
    let is = posted_is 0 seated (quiet_at view c.requires.idle) c.exchange.ensures.3 c.store.ensures.2 in
    (placed c.give_back.ensures.none (posted_seated seated is), search rules)

pub returns : goal.returns
returns c =
    let seated = given_seated c.seat.invariant.0 c.give_back.ensures.given in
    let view = given_view c.seat.invariant.0 c.seat.view_is c.give_back.ensures.table c.give_back.ensures.given in
    posts_is c.give_back.new.token.me view (search rules) c.give_back.ensures.none
    (posted_is 0 seated (quiet_at view c.requires.idle) c.exchange.ensures.3 c.store.ensures.2)
