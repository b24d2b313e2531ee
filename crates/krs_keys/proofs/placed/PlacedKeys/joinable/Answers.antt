use Rattle.std.proofs.Common.{◌∙◌, ap, Some, sym}
use Rattle.krs_keys.specs.Places.{by_place}
use Rattle.krs_keys.proofs.{LeastJoinable.joinable_is, PlacesLemmas.rises_in_slots}
use Rattle.krs_keys.proofs.placed.PlacedKeys.joinable.Goals as goal

pub returns-in-Some-least : goal.returns-in-Some-least
returns-in-Some-least c =
    let placed = c.args.self.now in
    ap (λ n. Some n) c.new.ensures
    ∙ (sym c.in-Some-least.is
    ∙ joinable_is c.args.clock c.args.caller.now c.args.desc.now (by_place placed) c.loop-ring.ring-iterator
    c.loop-ring.least (rises_in_slots placed.slots.slots placed.places.entries) c.in-None.ensures.steps.0
    c.loop-ring.invariant)

pub returns-in-None-least : goal.returns-in-None-least
returns-in-None-least c =
    let placed = c.args.self.now in
    sym c.in-None-least.is
    ∙ joinable_is c.args.clock c.args.caller.now c.args.desc.now (by_place placed) c.loop-ring.ring-iterator
    c.loop-ring.least (rises_in_slots placed.slots.slots placed.places.entries) c.in-None.ensures.steps.0
    c.loop-ring.invariant
