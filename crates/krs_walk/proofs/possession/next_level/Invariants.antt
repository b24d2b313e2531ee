use Rattle.krs_keys.specs.Keys.{shown}
use Rattle.krs_walk.specs.Walks.{followed_rings}
use Rattle.krs_walk.proofs.RoundsLemmas.{IsRound}
use Rattle.krs_walk.proofs.possession.next_level.Given as goal

abbrev pub invariant-loop-place : goal.invariant-loop-place
invariant-loop-place l =
    IsRound (followed_rings (shown l.keys.keys) l.clock l.caller) l.fn.seen l.seen l.fn.start l.place
