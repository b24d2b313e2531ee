use Rattle.krs_desk.proofs.Dealing.{all_fit}
use Rattle.krs_desk.proofs.desk.Desk.open.Goals as goal

pub returns-in-Ok-clause-fit : goal.returns-in-Ok-clause-fit
returns-in-Ok-clause-fit c = all_fit _ c.args.store c.args.lanes _ c.in-Ok.ensures.seats
