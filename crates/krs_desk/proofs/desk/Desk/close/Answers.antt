use Rattle.krs_desk.proofs.{Ending.ends_in, KeptTurns.{given_seated, given_view}}
use Rattle.krs_desk.proofs.desk.Desk.close.Goals as goal

pub give_back-requires-clause-kept : goal.give_back-requires-clause-kept
give_back-requires-clause-kept c = c.into_parts-lane.ensures.placed.0.keeps

pub fetch-requires-clause-rests : goal.fetch-requires-clause-rests
fetch-requires-clause-rests c = (given_seated c.into_parts-lane.ensures.placed.0 c.give_back.ensures.given).rests

pub returns-in-Ok-clause-ended : goal.returns-in-Ok-clause-ended
returns-in-Ok-clause-ended c = ends_in _ _ _ _ _ _
    (given_view c.into_parts-lane.ensures.placed.0 c.into_parts-lane.ensures.sitting c.give_back.ensures.table
    c.give_back.ensures.given) c.in-Ok.ensures.had
