use Rattle.std.proofs.Common.{◌∙◌, ap, Some, ℕ}
use Rattle.krs_world.proofs.world.may_put.Goals as goal

pub returns-clause-may : goal.returns-clause-may
returns-clause-may c = λ idle.
    (c.in-Some.is ∙ ap (λ (n : ℕ). Some n) c.if-holder-lane.false, c.in-None.is, c.is_idle.ensures.idle idle)
