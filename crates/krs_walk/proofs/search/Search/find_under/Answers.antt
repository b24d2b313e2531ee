use Rattle.std.proofs.Common.{◌∙◌, sym}
use Rattle.krs_walk.specs.Searching.{searcher_for}
use Rattle.krs_walk.proofs.FindingLemmas.{first_finds}
use Rattle.krs_walk.proofs.search.Search.find_under.Goals as goal

pub returns-in-Ok : goal.returns-in-Ok
returns-in-Ok c =
    let s = c.args.self.now in
    sym (first_finds (searcher_for s) s.name.now c.args.head c.args.fault c.in-Ok.serial c.requires.only
    c.requires.head (sym c.in-Ok.is ∙ c.look_in-linked.ensures.sought))
