use Rattle.krs_session.proofs.CallLemmas.{gains_session}
use Rattle.krs_session.proofs.laws.a_session_is_its_asks_and_leave.Goals as goal

pub returns : goal.returns
returns g c = λ s t reader0 reader1 writer0 writer1 clock0 clock1 lane reads ended session.
    gains_session s t session.frames session.events session.last session.order session.leave session.asked
