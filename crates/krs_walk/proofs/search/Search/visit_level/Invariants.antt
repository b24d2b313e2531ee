use Rattle.krs_walk.specs.Searching.{ArePossessed, searcher_for}
use Rattle.krs_walk.proofs.VisitingLemmas.{IsVisit}
use Rattle.krs_walk.proofs.search.Search.visit_level.Given as goal

abbrev pub invariant-loop-place : goal.invariant-loop-place
invariant-loop-place l = record {
  held : ArePossessed l.self l.held;
  visit : IsVisit (searcher_for l.self) l.self.name.now l.fn.seen l.seen l.fn.start l.place l.fn.fault l.fault;
}
