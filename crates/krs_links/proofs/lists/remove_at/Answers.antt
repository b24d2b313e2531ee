use Rattle.krs_links.specs.Indexed.{linked}
use Rattle.krs_links.proofs.PlacesLemmas.{AreLists-removed}
use Rattle.krs_links.proofs.lists.remove_at.Goals as goal

pub returns-clause-found : goal.returns-clause-found
returns-clause-found c = record {
  lists = rw c.remove.ensures.links
      (AreLists-removed (linked c.args.index.now) c.args.rings.now.items c.remove_ring_at.new.rings.items
      c.args.place c.requires.found.lists c.remove_ring_at.ensures);
  indexed = c.remove.ensures.indexed;
}
