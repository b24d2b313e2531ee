use Rattle.krs_world.proofs.PostedOrder.{posted_order}
use Rattle.krs_world.proofs.laws.posted_calls_keep_session_order.Goals as goal

pub returns : goal.returns
returns c = posted_order
