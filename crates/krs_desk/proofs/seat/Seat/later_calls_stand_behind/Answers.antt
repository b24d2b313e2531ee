use Rattle.krs_desk.proofs.{Between.{collected, posted, real_time}, Running.keeps_real_time}
use Rattle.krs_desk.proofs.seat.Seat.later_calls_stand_behind.Goals as goal

pub returns-clause-running : goal.returns-clause-running
returns-clause-running c = keeps_real_time _

pub returns-clause-asked : goal.returns-clause-asked
returns-clause-asked c = real_time _

pub returns-clause-answered : goal.returns-clause-answered
returns-clause-answered c = posted _

pub returns-clause-collected : goal.returns-clause-collected
returns-clause-collected c = collected _
