use Rattle.krs_world.proofs.Orders.{served_order, session_order}
use Rattle.krs_world.proofs.laws.session_order_is_kept.Goals as goal

pub returns-clause-put : goal.returns-clause-put
returns-clause-put c = session_order

pub returns-clause-served : goal.returns-clause-served
returns-clause-served c = served_order
