use Rattle.std.proofs.Common.{◌≡◌, Err}
use Rattle.krs_walk.specs.Searching.{searcher_for}
use Rattle.krs_walk.proofs.DescentLemmas.{to_depth}
use Rattle.krs_walk.proofs.search.Search.find_by_levels.Given as goal

abbrev pub invariant-loop-level : goal.invariant-loop-level
invariant-loop-level l = to_depth (searcher_for l.self) l.self.name.now l.head l.level ≡ Err l.fault
