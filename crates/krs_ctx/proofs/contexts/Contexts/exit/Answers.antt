use Rattle.krs_ctx.proofs.{LeavingLemmas.exit_told, ToldLemmas.there}
use Rattle.krs_ctx.proofs.contexts.Contexts.exit.Goals as goal

pub returns : goal.returns
returns c = λ s.
    exit_told s c.args.self.now c.end.new.self c.args.client c.args.number c.in_ok-_own._own.now
    (c.in_ok-_own.ensures s)
    (there c.args.self.now c.args.client c.args.number c.in_ok-_own._own.now c.in_ok-_own.ensures) c.end.ensures
