use Rattle.std.proofs.Common.{◌∙◌, ◌≢◌, ap, Option, option_map, Some, subst, sym}
use Rattle.krs_links.specs.Links.{serial_named}
use Rattle.krs_keys.specs.{Keys.{name_at, named_links_of_key}, Places.{held, in_slots}, declared.key.Key.Key}
use Rattle.krs_keys.proofs.{LinkNames.{missing_linked, other_linked}, LinkPlaces.none_so}
use Rattle.krs_keys.proofs.slots.link_place.Goals as goal

pub returns-in_default-clause-none : goal.returns-in_default-clause-none
returns-in_default-clause-none c =
    let keys = in_slots c.args.slots.now.slots c.args.places.now.entries in
    missing_linked (name_at keys) c.args.serial (named_links_of_key (held c.args.slots.now.slots c.args.place))
    (ap (name_at keys) (sym c.number.ensures)
    ∙ ap (option_map (λ (key : Key). key.name)) (sym c.in_default.ensures)) c.requires.named

pub returns-in-Some-get-clause-none : goal.returns-in-Some-get-clause-none
returns-in-Some-get-clause-none c =
    let keys = in_slots c.args.slots.now.slots c.args.places.now.entries in
    none_so c.link_place.result
    (λ other. other_linked (name_at keys) c.in-Some.key.now.name c.args.serial
    (named_links_of_key (held c.args.slots.now.slots c.args.place))
    (ap (name_at keys) (sym c.number.ensures)
    ∙ ap (option_map (λ (key : Key). key.name)) (sym c.in-Some.ensures))
    (subst (λ (o : Option Key). serial_named (named_links_of_key o) c.in-Some.key.now.name ≢ Some c.args.serial)
    c.in-Some-get.ensures other) c.requires.named)
    c.link_place.ensures.none
