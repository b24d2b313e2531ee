use Rattle.std.proofs.Common.{◌∙◌}
use Rattle.krs_keys.specs.Places.{by_place}
use Rattle.krs_keys.proofs.{PlacesLemmas.rises_in_slots, RingCount.length_rings}
use Rattle.krs_keys.proofs.placed.PlacedKeys.ring_count.Goals as goal

pub returns : goal.returns
returns c =
    let placed = c.args.self.now in
    c.len.ensures.len
    ∙ length_rings (by_place placed) placed.rings.keys (rises_in_slots placed.slots.slots placed.places.entries)
    c.len.ensures.unique c.requires.rings
