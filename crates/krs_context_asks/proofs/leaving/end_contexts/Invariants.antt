use Rattle.std.proofs.Common.{length}
use Rattle.krs_context_asks.proofs.LeftStates.{AreEnding}
use Rattle.krs_context_asks.proofs.leaving.end_contexts.Given as goal

-- what is to stay has stayed
abbrev pub invariant-ending : goal.invariant-ending
invariant-ending l = AreEnding l.client l.fn.tables l.tables

abbrev pub decreases-ending : goal.decreases-ending
decreases-ending l = length l.tables.contexts
