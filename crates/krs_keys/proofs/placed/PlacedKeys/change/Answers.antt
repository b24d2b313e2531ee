use Rattle.std.proofs.Common.{◌∙◌, ap, subst, sym}
use Rattle.krs_model.specs.Table.{Table}
use Rattle.krs_model.proofs.Tables.Changes.{alter_none}
use Rattle.krs_keys.specs.{Changes.changed, Places.{AreRings, by_place}, declared.key.Key.Key}
use Rattle.krs_keys.proofs.ChangesLemmas.{name-changed}
use Rattle.krs_keys.proofs.PlacesLemmas.{at_in_slots, found, HavePlaces-alter, in_slots_alter}
use Rattle.krs_keys.proofs.RingsLemmas.{rings_alter}
use Rattle.krs_keys.proofs.placed.PlacedKeys.change.Goals as goal

pub returns-in-Some-clause-keys : goal.returns-in-Some-clause-keys
returns-in-Some-clause-keys c =
    in_slots_alter c.args.self.now.slots.slots c.change.new.slots.slots c.args.self.now.places.entries
    c.in-Some.place (changed c.args.change) c.requires.places c.change.ensures c.args.serial
    (sym c.in-Some.ensures.value)

pub returns-in-Some-clause-placed : goal.returns-in-Some-clause-placed
returns-in-Some-clause-placed c = record {
  places = HavePlaces-alter c.args.self.now.slots.slots c.change.new.slots.slots c.args.self.now.places.entries
      c.in-Some.place (changed c.args.change) c.requires.places c.change.ensures;
  rings = subst (λ (t : Table Key). AreRings t c.args.self.now.rings.keys) (sym (returns-in-Some-clause-keys c))
      (rings_alter (by_place c.args.self.now) c.args.self.now.rings.keys c.args.serial (changed c.args.change)
      (name-changed c.args.change) c.requires.rings);
}

pub returns-in-None-clause-keys : goal.returns-in-None-clause-keys
returns-in-None-clause-keys c =
    let slots = c.args.self.now.slots.slots in
    sym (alter_none (by_place c.args.self.now) c.args.serial (changed c.args.change)
    (at_in_slots slots c.args.self.now.places.entries c.args.serial ∙ ap (found slots) (sym c.in-None.ensures.value)))
