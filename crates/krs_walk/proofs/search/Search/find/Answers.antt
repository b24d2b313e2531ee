use Rattle.std.proofs.Common.{◌∙◌, sym}
use Rattle.krs_walk.specs.Searching.{searcher_for}
use Rattle.krs_walk.proofs.FindingLemmas.{head_finds}
use Rattle.krs_walk.proofs.search.Search.find.Goals as goal

pub returns-in-Ok : goal.returns-in-Ok
returns-in-Ok c =
    let s = c.args.self.now in
    sym (head_finds (searcher_for s) s.name.now c.args.head c.in-Ok.serial (sym c.judge.ensures ∙ c.in-Ok.is))
