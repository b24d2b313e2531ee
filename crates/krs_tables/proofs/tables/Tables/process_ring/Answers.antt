use Rattle.std.proofs.Common.{◌∙◌, ap}
use Rattle.krs_model.specs.{Possession.process_ring, State.State}
use Rattle.krs_tables.specs.View.{state_of}
use Rattle.krs_tables.proofs.tables.Tables.process_ring.Goals as goal

pub returns : goal.returns
returns c =
    c.process_ring.ensures (state_of c.self.inside)
    ∙ ap (λ (t : State). process_ring t c.args.process) c.self.view_is
