use Rattle.std.proofs.Common.{ap, rules}
use Rattle.krs_desk.specs.declared.slot.SlotValue.TheVariants.{Replied}
use Rattle.krs_desk.proofs.KeptTurns.{given_seated, given_view}
use Rattle.krs_desk.proofs.{Posts.{collected_is, collects_at, collects_is, gathered}, Seats.front}
use Rattle.krs_desk.proofs.desk.Desk.collect.Goals as goal

pub give_back-requires-clause-kept : goal.give_back-requires-clause-kept
give_back-requires-clause-kept c = c.seat.invariant.0.keeps

pub compare_exchange-requires : goal.compare_exchange-requires
compare_exchange-requires c = (
  search rules,
  search rules,
  collects_at _ _ _ (given_seated c.seat.invariant.0 c.give_back.ensures.given) (search rules),
)

pub exchange-requires : goal.exchange-requires
exchange-requires c =
    let t = c.compare_exchange.ensures.2.0 c.if-compare_exchange-ne-ANSWERED.false in
    (search rules, (Replied t.3, front (ap (λ m. m.1) t.4)))

pub returns-clause-some : goal.returns-clause-some
returns-clause-some c =
    let m = c.give_back.new.token.me in
    let view = given_view c.seat.invariant.0 c.seat.view_is c.give_back.ensures.table c.give_back.ensures.given in
    let t = c.compare_exchange.ensures.2.0 c.if-compare_exchange-ne-ANSWERED.false in
    collects_is m view (search rules) (collected_is m t.1 t.2 t.4 c.exchange.ensures.2 c.in-Replied.is
    c.exchange.ensures.3)
    (gathered m t.4 c.exchange.ensures.2 c.in-Replied.is t.5)
