use Rattle.krs_links.proofs.PlacesLemmas.{none_are_lists}
use Rattle.krs_links.proofs.table.LinkTable.new.Goals as goal

pub invariant_of-result : goal.invariant_of-result
invariant_of-result c = record {
  lists = none_are_lists c.new.ensures.links c.new-2.ensures.items;
  indexed = c.new.ensures.indexed;
}
