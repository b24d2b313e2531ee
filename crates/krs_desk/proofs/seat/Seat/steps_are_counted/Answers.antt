use Rattle.krs_desk.proofs.Looking.{counts_looks, counts_misses, counts_turns, looks_in_turn}
use Rattle.krs_desk.proofs.seat.Seat.steps_are_counted.Goals as goal

pub returns-clause-turns : goal.returns-clause-turns
returns-clause-turns c = counts_turns

pub returns-clause-misses : goal.returns-clause-misses
returns-clause-misses c = counts_misses

pub returns-clause-looks : goal.returns-clause-looks
returns-clause-looks c = counts_looks

pub returns-clause-in_turn : goal.returns-clause-in_turn
returns-clause-in_turn c = looks_in_turn
