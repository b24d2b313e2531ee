use Rattle.std.proofs.Common.{subst}
use Rattle.krs_model.specs.{Lookup.context_of, Outcome.Is, State.State}
use Rattle.krs_tables.specs.View.{state_of}
use Rattle.krs_tables.proofs.tables.Tables.context_of.Goals as goal

pub returns : goal.returns
returns c =
    subst (λ (t : State). Is (λ x. x.now) c.context_of.result (context_of t c.args.client c.args.number))
    c.self.view_is
    (c.context_of.ensures (state_of c.self.inside))
