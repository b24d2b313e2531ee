use Rattle.std.proofs.Common.{length}
use Rattle.krs_ctx.specs.Told.{IsLeaving}
use Rattle.krs_ctx.proofs.contexts.Contexts.leave.Given as goal

-- what is to stay has stayed
abbrev pub invariant-ending : goal.invariant-ending
invariant-ending l = IsLeaving l.client l.fn.self l.self

abbrev pub decreases-ending : goal.decreases-ending
decreases-ending l = length l.self.contexts
