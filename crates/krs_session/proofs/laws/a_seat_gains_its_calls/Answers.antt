use Rattle.krs_session.proofs.CallLemmas.{gains_by}
use Rattle.krs_session.proofs.laws.a_seat_gains_its_calls.Goals as goal

pub returns : goal.returns
returns c = gains_by
