use Rattle.std.proofs.Common.{◌&&◌, ◌∙◌, ap, is_none, ℕ}
use Rattle.krs_types.specs.declared.name.Name.{Name}
use Rattle.krs_links.specs.{Indexed.linked, Links.is_full}
use Rattle.krs_links.proofs.{IndexLemmas.never_both, IndexedLemmas.linked_in-set}
use Rattle.krs_links.proofs.PlacesLemmas.{AreLists-displaced, linked_as_at, serial_at_named}
use Rattle.krs_links.proofs.lists.displace.Goals as goal
use Rattle.std.proofs.Common.{arith}
use Rattle.std.proofs.lemmas.Grind.{common_steps}

pub set_serial-requires : goal.set_serial-requires
set_serial-requires c = record { indexed = c.requires.found.indexed }

pub returns-clause-displaced : goal.returns-clause-displaced
returns-clause-displaced c = grind (arith, common_steps, serial_at_named)

pub returns-clause-room : goal.returns-clause-room
returns-clause-room c =
    let link : Name × ℕ = (c.args.name.now, c.args.serial) in
    let links = linked c.args.index.now in
    ap (λ found. is_full links && is_none found) (linked_as_at c.args.name.now links c.args.place link c.requires.place)
    ∙ never_both (is_full links)

pub returns-clause-links : goal.returns-clause-links
returns-clause-links c = grind (arith, common_steps, linked_in-set)

pub returns-clause-found : goal.returns-clause-found
returns-clause-found c =
    let links = linked c.args.index.now in
    let after = c.displace_ring.new.rings.items in
    record {
      lists = rw (returns-clause-links c)
          (AreLists-displaced c.args.name.now c.args.serial links c.args.rings.now.items after c.args.place
          c.requires.found.lists c.requires.place (rw c.as_name.ensures at c.displace_ring.ensures));
      indexed = c.set_serial.ensures.indexed;
    }
