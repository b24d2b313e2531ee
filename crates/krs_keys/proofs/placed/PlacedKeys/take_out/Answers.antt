use Rattle.std.proofs.Common.{◌∙◌, ◌≡◌, ap, None, Some, subst, sym}
use Rattle.krs_model.specs.Table.{at, Table}
use Rattle.krs_keys.specs.{Places.{AreRings, by_place, in_slots, is_keyring}, declared.key.Key.Key}
use Rattle.krs_keys.proofs.PlacesLemmas.{at_in_slots, found, HavePlaces-without, in_slots_without, rises_in_slots}
use Rattle.krs_keys.proofs.{RingsLemmas.rings_without, RisingTables.{gone_without, without_absent}}
use Rattle.krs_keys.proofs.placed.PlacedKeys.take_out.Goals as goal

nothing : (c : goal.After-from_residual) → at (by_place c.args.self.now) c.args.serial ≡ None
nothing c =
    let slots = c.args.self.now.slots.slots in
    at_in_slots slots c.args.self.now.places.entries c.args.serial
    ∙ ap (found slots) (sym c.in_err-place.ensures.value)

pub returns-in_err-place-clause-key : goal.returns-in_err-place-clause-key
returns-in_err-place-clause-key c = c.from_residual.ensures ∙ sym (nothing c)

same_keys : (c : goal.After-from_residual)
    → in_slots c.args.self.now.slots.slots c.remove.new.self.entries ≡ by_place c.args.self.now
same_keys c = ap (in_slots c.args.self.now.slots.slots) c.in_err-place.ensures.unchanged

pub returns-in_err-place-clause-keys : goal.returns-in_err-place-clause-keys
returns-in_err-place-clause-keys c =
    same_keys c ∙ sym (without_absent (by_place c.args.self.now) c.args.serial (nothing c))

pub returns-in_err-place-clause-gone : goal.returns-in_err-place-clause-gone
returns-in_err-place-clause-gone c = ap (λ (t : Table Key). at t c.args.serial) (same_keys c) ∙ nothing c

-- the key is what was at the serial
taken : (c : goal.After-key-1) → Some c.remove-key.result ≡ at (by_place c.args.self.now) c.args.serial
taken c =
    let slots = c.args.self.now.slots.slots in
    sym (at_in_slots slots c.args.self.now.places.entries c.args.serial
    ∙ (ap (found slots) (sym c.in_ok-place.ensures.value) ∙ c.remove-key.ensures.value))

pub unlist-requires : goal.unlist-requires
unlist-requires c = c.requires.rings c.args.serial ∙ ap is_keyring (sym (taken c))

pub returns-clause-key : goal.returns-clause-key
returns-clause-key c =
    let slots = c.args.self.now.slots.slots in
    sym (at_in_slots slots c.args.self.now.places.entries c.args.serial
    ∙ (ap (found slots) (sym c.in_ok-place.ensures.value) ∙ c.remove-key.ensures.value))

pub returns-clause-keys : goal.returns-clause-keys
returns-clause-keys c =
    in_slots_without c.args.self.now.slots.slots c.remove-key.new.self.slots c.args.self.now.places.entries
    c.remove.new.self.entries c.args.serial c.in_ok-place.place c.requires.places
    (sym c.in_ok-place.ensures.value) c.remove-key.ensures.updates.changed c.remove-key.ensures.updates.others
    c.remove.ensures.gone

pub returns-clause-placed : goal.returns-clause-placed
returns-clause-placed c =
    let slots = c.args.self.now.slots.slots in
    let places = c.args.self.now.places.entries in
    record {
      places = HavePlaces-without slots c.remove-key.new.self.slots places c.remove.new.self.entries
          c.args.serial c.in_ok-place.place c.requires.places (sym c.in_ok-place.ensures.value)
          c.remove-key.ensures.updates.changed c.remove-key.ensures.updates.others c.remove.ensures.gone;
      rings = subst (λ (t : Table Key). AreRings t c.unlist.new.rings.keys) (sym (returns-clause-keys c))
          (rings_without (by_place c.args.self.now) c.args.self.now.rings.keys c.unlist.new.rings.keys c.args.serial
          (rises_in_slots slots places) c.unlist.ensures c.requires.rings);
    }

pub returns-clause-gone : goal.returns-clause-gone
returns-clause-gone c =
    ap (λ (t : Table Key). at t c.args.serial) (returns-clause-keys c)
    ∙ gone_without (by_place c.args.self.now) c.args.serial
    (rises_in_slots c.args.self.now.slots.slots c.args.self.now.places.entries)
