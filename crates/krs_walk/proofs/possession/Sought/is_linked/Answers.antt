use Rattle.std.proofs.Common.{sym}
use Rattle.krs_walk.proofs.HintLemmas.{near_linked}
use Rattle.krs_walk.proofs.possession.Sought.is_linked.Goals as goal

pub returns-then-is_hinted : goal.returns-then-is_hinted
returns-then-is_hinted c = sym (near_linked c.args.self.now (c.is_hinted.ensures c.if-is_hinted.true))
