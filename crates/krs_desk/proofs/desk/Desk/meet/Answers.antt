use Rattle.std.proofs.Common.{rules}
use Rattle.krs_desk.proofs.{KeptTurns.{given_seated, given_view, placed}, Seats.{meets_at, met_seated}}
use Rattle.krs_desk.proofs.desk.Desk.meet.Goals as goal

pub give_back-requires-clause-kept : goal.give_back-requires-clause-kept
give_back-requires-clause-kept c = c.first.invariant.0.keeps

pub give_back-requires-2-clause-kept : goal.give_back-requires-2-clause-kept
give_back-requires-2-clause-kept c = c.second.invariant.0.keeps

pub look_as_one-requires-clause-rest : goal.look_as_one-requires-clause-rest
look_as_one-requires-clause-rest c = (
  (given_seated c.first.invariant.0 c.give_back.ensures.given).rests,
  (given_seated c.second.invariant.0 c.give_back-2.ensures.given).rests,
)

pub invariant_of-first : goal.invariant_of-first
invariant_of-first c =
    let seated = given_seated c.first.invariant.0 c.give_back.ensures.given in
    let sees = c.look_as_one.ensures.seen in (
      placed c.give_back.ensures.none (met_seated sees.last seated seated.sound sees.first sees.founds.0.legal),
      search rules,
    )

pub invariant_of-second : goal.invariant_of-second
invariant_of-second c =
    let seated = given_seated c.first.invariant.0 c.give_back.ensures.given in
    let also = given_seated c.second.invariant.0 c.give_back-2.ensures.given in
    let sees = c.look_as_one.ensures.seen in (
      placed c.give_back-2.ensures.none (met_seated sees.last also seated.sound sees.second sees.founds.0.legal),
      search rules,
    )

pub returns-clause-met : goal.returns-clause-met
returns-clause-met c =
    meets_at (given_view c.first.invariant.0 c.first.view_is c.give_back.ensures.table c.give_back.ensures.given)
    (given_view c.second.invariant.0 c.second.view_is c.give_back-2.ensures.table c.give_back-2.ensures.given)
    c.look_as_one.ensures.seen c.look_as_one.ensures.openings
