use Rattle.krs_desk.proofs.Running.{keeps_seen_lists, only_grows, sees_one_order}
use Rattle.krs_desk.proofs.seat.Seat.the_history_only_grows.Goals as goal

pub returns-clause-grows : goal.returns-clause-grows
returns-clause-grows c = only_grows _

pub returns-clause-seen : goal.returns-clause-seen
returns-clause-seen c = keeps_seen_lists _

pub returns-clause-order : goal.returns-clause-order
returns-clause-order c = sees_one_order _
