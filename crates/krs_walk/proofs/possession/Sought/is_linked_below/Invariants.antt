use Rattle.krs_walk.specs.Seeking.{heads, links_it, nested}
use Rattle.krs_walk.proofs.RoundsLemmas.{IsSearch}
use Rattle.krs_walk.proofs.possession.Sought.is_linked_below.Given as goal

abbrev pub invariant-loop-level : goal.invariant-loop-level
invariant-loop-level l = IsSearch (links_it l.self) (nested l.self) (heads l.self) l.level l.start l.seen
