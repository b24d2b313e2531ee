use Rattle.std.proofs.Common.{sym}
use Rattle.krs_links.specs.Indexed.{linked}
use Rattle.krs_links.proofs.IndexLemmas.{link_named_at, rings_one_more}
use Rattle.krs_links.proofs.lists.is_ring_at.Goals as goal

pub returns-in-Some : goal.returns-in-Some
returns-in-Some c =
    let links = linked c.args.index.now in
    rw c.is.ensures
    (rings_one_more links c.args.place _ (link_named_at links c.args.place c.in-Some.name.now (sym c.in-Some.ensures)))
