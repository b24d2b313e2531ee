use Rattle.std.proofs.Common.{◌∙◌, ap, sym}
use Rattle.krs_keys.proofs.PlacesLemmas.{at_in_slots, found}
use Rattle.krs_keys.proofs.slots.get.Goals as goal

pub returns-in-Some : goal.returns-in-Some
returns-in-Some c =
    let slots = c.args.slots.now.slots in
    c.get-in-Some.ensures
    ∙ sym (at_in_slots slots c.args.places.now.entries c.args.serial
    ∙ ap (found slots) (sym c.in-Some.ensures.value))

pub returns-in-None : goal.returns-in-None
returns-in-None c =
    let slots = c.args.slots.now.slots in
    sym (at_in_slots slots c.args.places.now.entries c.args.serial ∙ ap (found slots) (sym c.in-None.ensures.value))
