use Rattle.std.proofs.Common.{◌≡◌, cond, nat_eq, None, Some, subst, sym, ℕ}
use Rattle.krs_model.specs.Table.{Table}
use Rattle.krs_keys.specs.{Places.{AreRings, by_place, place_of}, declared.key.Key.Key}
use Rattle.krs_keys.proofs.{PlacesLemmas.{HavePlaces-put, in_slots_put, no_place}, RingsLemmas.rings_put}
use Rattle.krs_keys.proofs.placed.PlacedKeys.put.Goals as goal

-- the serial has the place
placed : (c : goal.After-insert) → (q : ℕ) → place_of c.insert.new.self.entries q
    ≡ cond (nat_eq c.args.serial q) (Some c.insert_reserved-place.result) (place_of c.args.self.now.places.entries q)
placed c q = c.insert.ensures.placed q

-- it had none
absent : (c : goal.After-insert) → place_of c.args.self.now.places.entries c.args.serial ≡ None
absent c =
    no_place c.args.self.now.slots.slots c.args.self.now.places.entries c.args.serial c.requires.placed.places
    c.requires.absent

pub insert-requires : goal.insert-requires
insert-requires c = record {
  absent = no_place c.args.self.now.slots.slots c.args.self.now.places.entries c.args.serial c.requires.placed.places
      c.requires.absent;
  room = c.requires.room.places;
}

pub returns-clause-keys : goal.returns-clause-keys
returns-clause-keys c =
    in_slots_put c.args.self.now.slots.slots c.insert_reserved-place.new.self.slots c.args.self.now.places.entries
    c.insert.new.self.entries c.args.serial c.insert_reserved-place.result c.args.key c.requires.placed.places
    c.insert_reserved-place.ensures.was_vacant (absent c) c.insert_reserved-place.ensures.updates.changed
    c.insert_reserved-place.ensures.updates.others (placed c)

pub returns-clause-placed : goal.returns-clause-placed
returns-clause-placed c = record {
  places = HavePlaces-put c.args.self.now.slots.slots c.insert_reserved-place.new.self.slots
      c.args.self.now.places.entries c.insert.new.self.entries c.args.serial c.insert_reserved-place.result c.args.key
      c.requires.placed.places c.insert_reserved-place.ensures.was_vacant (absent c)
      c.insert_reserved-place.ensures.updates.changed c.insert_reserved-place.ensures.updates.others (placed c);
  rings = subst (λ (t : Table Key). AreRings t c.list.new.rings.keys) (sym (returns-clause-keys c))
      (rings_put (by_place c.args.self.now) c.args.self.now.rings.keys c.list.new.rings.keys c.args.serial c.args.key
      c.list.ensures.listed c.requires.placed.rings);
}
