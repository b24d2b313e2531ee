use Rattle.krs_walk.specs.Searching.{ArePossessed, searcher_for}
use Rattle.krs_walk.proofs.FindingLemmas.{IsSeek}
use Rattle.krs_walk.proofs.search.Search.walk_below.Given as goal

abbrev pub invariant-loop-level : goal.invariant-loop-level
invariant-loop-level l = record {
  held : ArePossessed l.self l.held;
  seek : IsSeek (searcher_for l.self) l.self.name.now l.fn.head l.level l.start l.seen l.fault;
}
