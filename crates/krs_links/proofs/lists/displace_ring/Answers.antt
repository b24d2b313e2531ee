use Rattle.std.proofs.Common.{◌∙◌, arith, sym}
use Rattle.krs_links.specs.Indexed.{linked}
use Rattle.krs_links.proofs.PlacesLemmas.{ring_within, rings_displaced, rings_stay_displaced}
use Rattle.krs_links.proofs.lists.displace_ring.Goals as goal
use Rattle.std.proofs.lemmas.Grind.{common_steps}

pub index_mut-requires : goal.index_mut-requires
index_mut-requires c = grind (arith, common_steps, ring_within)

pub returns-then-is : goal.returns-then-is
returns-then-is c =
    let links = linked c.args.index.now in
    let ring = sym c.is.ensures ∙ c.if-is.true in
    rw (c.requires.rings, c.rings_before-ring.ensures)
    (rings_displaced c.args.name.now c.args.serial links c.args.place c.requires.place ring)

pub returns-else-is : goal.returns-else-is
returns-else-is c =
    let links = linked c.args.index.now in
    let other = sym c.is.ensures ∙ c.if-is.false in
    c.requires.rings
    ∙ rings_stay_displaced c.args.name.now c.args.serial links c.args.place c.requires.place other
