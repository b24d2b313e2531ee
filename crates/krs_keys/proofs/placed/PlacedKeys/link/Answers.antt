use Rattle.std.proofs.Common.{◌∙◌, ◌≡◌, ap, IsSome, None, Option, refl, subst, sym}
use Rattle.krs_model.specs.Table.{at, Table}
use Rattle.krs_model.proofs.Tables.Changes.{alter_none}
use Rattle.krs_links.specs.Links.{is_refused, link_error}
use Rattle.krs_keys.specs.Keys.{displaced_by, named_links_of_key, with_entry}
use Rattle.krs_keys.specs.{Places.{AreRings, by_place, held}, declared.key.Key.Key}
use Rattle.krs_keys.proofs.PlacesLemmas.{at_in_slots, found, HavePlaces-alter, in_slots_alter, in_slots_same}
use Rattle.krs_keys.proofs.{RingsLemmas.rings_alter, TableLemmas.{by_result, if_err, if_ok, on_err, on_ok}}
use Rattle.krs_keys.proofs.placed.PlacedKeys.link.Goals as goal

-- what is at the keyring's place
here : (c : goal.After-link)
    → at (by_place c.args.self.now) c.args.ring ≡ held c.args.self.now.slots.slots c.in-Some.place
here c =
    let slots = c.args.self.now.slots.slots in
    at_in_slots slots c.args.self.now.places.entries c.args.ring ∙ ap (found slots) (sym c.in-Some.ensures.value)

pub returns-in-Some-clause-ok : goal.returns-in-Some-clause-ok
returns-in-Some-clause-ok c =
    on_ok c.link.result (λ h. in_slots_alter c.args.self.now.slots.slots c.link.new.slots.slots
    c.args.self.now.places.entries c.in-Some.place (with_entry c.args.name c.args.serial) c.requires.places h
    c.args.ring (sym c.in-Some.ensures.value)) c.link.ensures.ok

pub returns-in-Some-clause-placed : goal.returns-in-Some-clause-placed
returns-in-Some-clause-placed c =
    let slots = c.args.self.now.slots.slots in
    let new = c.link.new.slots.slots in
    let places = c.args.self.now.places.entries in
    let rings = c.args.self.now.rings.keys in
    let f = with_entry c.args.name c.args.serial in
    by_result c.link.result
    (λ h. record {
      places = HavePlaces-alter slots new places c.in-Some.place f c.requires.places h;
      rings = subst (λ (t : Table Key). AreRings t rings)
          (sym (in_slots_alter slots new places c.in-Some.place f c.requires.places h c.args.ring
          (sym c.in-Some.ensures.value)))
          (rings_alter (by_place c.args.self.now) rings c.args.ring f (λ v. refl) c.requires.rings);
    })
    (λ h. record {
      places = HavePlaces-alter slots new places c.in-Some.place (λ key. key) c.requires.places h;
      rings = subst (λ (t : Table Key). AreRings t rings) (sym (in_slots_same slots new places c.in-Some.place h))
          c.requires.rings;
    })
    c.link.ensures.ok c.link.ensures.err

pub returns-in-Some-clause-err : goal.returns-in-Some-clause-err
returns-in-Some-clause-err c =
    on_err c.link.result (λ h. in_slots_same c.args.self.now.slots.slots c.link.new.slots.slots
    c.args.self.now.places.entries c.in-Some.place h) c.link.ensures.err

pub returns-in-Some-clause-displaced : goal.returns-in-Some-clause-displaced
returns-in-Some-clause-displaced c =
    if_ok c.link.result (λ old h. h ∙ ap (displaced_by c.args.name) (sym (here c))) c.link.ensures.displaced

pub returns-in-Some-clause-room : goal.returns-in-Some-clause-room
returns-in-Some-clause-room c =
    on_ok c.link.result (λ h. ap (λ o. is_refused (named_links_of_key o) c.args.name) (here c) ∙ h)
    c.link.ensures.room

pub returns-in-Some-clause-in_place : goal.returns-in-Some-clause-in_place
returns-in-Some-clause-in_place c = λ displaced.
    c.link.ensures.in_place (subst (λ (o : Option Key). IsSome (displaced_by c.args.name o)) (here c) displaced)

pub returns-in-Some-clause-error : goal.returns-in-Some-clause-error
returns-in-Some-clause-error c =
    if_err c.link.result (λ e h. h ∙ ap (λ o. link_error (named_links_of_key o) c.args.name) (sym (here c)))
    c.link.ensures.error

nothing : (c : goal.After-drop-name-inside) → at (by_place c.args.self.now) c.args.ring ≡ None
nothing c =
    let slots = c.args.self.now.slots.slots in
    at_in_slots slots c.args.self.now.places.entries c.args.ring ∙ ap (found slots) (sym c.in-None.ensures.value)

pub returns-in-None-clause-displaced : goal.returns-in-None-clause-displaced
returns-in-None-clause-displaced c = ap (displaced_by c.args.name) (sym (nothing c))

pub returns-in-None-clause-ok : goal.returns-in-None-clause-ok
returns-in-None-clause-ok c =
    sym (alter_none (by_place c.args.self.now) c.args.ring (with_entry c.args.name c.args.serial) (nothing c))

pub returns-in-None-clause-room : goal.returns-in-None-clause-room
returns-in-None-clause-room c = ap (λ o. is_refused (named_links_of_key o) c.args.name) (nothing c)
