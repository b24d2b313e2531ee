use Rattle.krs_model.proofs.{Asks.Effects.effect_of, Notes.Order.{ended_rising, notes_by_queue}}
use Rattle.krs_model.proofs.laws.records_go_out_in_order.Goals as goal

pub returns-clause-notes : goal.returns-clause-notes
returns-clause-notes c = notes_by_queue

pub returns-clause-removals : goal.returns-clause-removals
returns-clause-removals c = λ s mid swept client context op answer sound meant sweep.
    ended_rising s client context op mid answer swept sound (effect_of s client context op mid answer meant) sweep
