use Rattle.std.proofs.Common.{◌∙◌, ap, arith, length, sym}
use Rattle.krs_links.specs.{Indexed.linked}
use Rattle.krs_links.proofs.IndexLemmas.{link_named_at, no_link_at}
use Rattle.krs_links.proofs.PlacesLemmas.{removed_past, ring_within_at, rings_removed_at, rings_stay_removed_at}
use Rattle.krs_links.proofs.lists.remove_ring_at.Goals as goal
use Rattle.std.proofs.lemmas.Grind.{common_steps}

pub remove-requires : goal.remove-requires
remove-requires c =
    let links = linked c.args.index.now in
    let here = link_named_at links c.args.place c.in-Some.name.now (sym c.in-Some.ensures) in
    let within = ring_within_at links c.args.place _ here (sym c.is.ensures ∙ c.if-is.true) in
    let long = ap length c.requires.rings in
    omega (arith, c.args.rings.now.ok)

pub returns-then-is : goal.returns-then-is
returns-then-is c =
    let links = linked c.args.index.now in
    let here = link_named_at links c.args.place c.in-Some.name.now (sym c.in-Some.ensures) in
    let ring = sym c.is.ensures ∙ c.if-is.true in
    rw (c.remove.ensures.items, c.requires.rings, c.rings_before-ring.ensures)
    (rings_removed_at links c.args.place _ here ring)

pub returns-else-is : goal.returns-else-is
returns-else-is c =
    let links = linked c.args.index.now in
    let here = link_named_at links c.args.place c.in-Some.name.now (sym c.in-Some.ensures) in
    let other = sym c.is.ensures ∙ c.if-is.false in
    c.requires.rings ∙ rings_stay_removed_at links c.args.place _ here other

pub returns-in_default : goal.returns-in_default
returns-in_default c = grind (arith, common_steps, removed_past, no_link_at)
