use Rattle.std.proofs.Common.{arith, rules}
use Rattle.krs_wire.proofs.CutLemmas.{feeds, is_nothing, refuses}
use Rattle.krs_wire.proofs.feed.Feed.feed_warning.Goals as goal
use Rattle.std.proofs.lemmas.Grind.{common_steps}

pub returns-then-is_empty-clause-refused : goal.returns-then-is_empty-clause-refused
returns-then-is_empty-clause-refused g c = grind (arith, common_steps, is_nothing, refuses)

pub returns-in-Err-clause-refused : goal.returns-in-Err-clause-refused
returns-in-Err-clause-refused g c = grind (arith, common_steps, refuses)

pub returns-after-fault-clause-frames : goal.returns-after-fault-clause-frames
returns-after-fault-clause-frames g c = grind (arith, common_steps, feeds)

pub returns-in-Some-clause-failed : goal.returns-in-Some-clause-failed
returns-in-Some-clause-failed g c = search rules
