use Rattle.std.proofs.Common.{◌≡◌, drop}
use Rattle.krs_walk.specs.Lists.{join}
use Rattle.krs_walk.proofs.visits.Visits.join.Given as goal

abbrev pub invariant-loop-key : goal.invariant-loop-key
invariant-loop-key l = join l.self (drop l.key-index l.keys) ≡ join l.fn.self l.keys
