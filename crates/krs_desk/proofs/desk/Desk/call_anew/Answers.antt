use Rattle.krs_desk.proofs.Calls.{called_after, found_more, none_found}
use Rattle.krs_desk.proofs.desk.Desk.call_anew.Goals as goal

pub returns-in-Err-clause-called : goal.returns-in-Err-clause-called
returns-in-Err-clause-called g c = called_after c.requires.rested
    (found_more c.args.seat.now c.args.seat.now _ (none_found c.args.seat.now c.requires.rested)
    c.in-Err.ensures.missed.1) c.in-Err.ensures.missed.0
    c.call_again-in-Err.ensures.called
