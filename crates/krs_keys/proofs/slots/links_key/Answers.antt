use Rattle.std.proofs.Common.{◌∙◌, ap, Option, subst, sym}
use Rattle.krs_links.specs.Links.{has_link}
use Rattle.krs_keys.specs.{Keys.{AreNamed, name_at, named_links_of_key}, Places.in_slots, declared.key.Key.Key}
use Rattle.krs_keys.proofs.{LinkNames.ring_named, PlacesLemmas.placed}
use Rattle.krs_keys.proofs.slots.links_key.Goals as goal

pub links_at-requires : goal.links_at-requires
links_at-requires c = record {
  named = subst (λ (o : Option Key). AreNamed (name_at (in_slots c.args.slots.now.slots c.args.places.now.entries))
      (named_links_of_key o)) (placed c.args.slots.now.slots c.args.places.now.entries c.args.ring _
      c.in-Some.ensures.value)
      (ring_named (in_slots c.args.slots.now.slots c.args.places.now.entries) c.args.ring c.requires.fit);
}

pub returns-in-Some : goal.returns-in-Some
returns-in-Some c =
    c.links_at.ensures ∙ ap (λ (o : Option Key). has_link c.args.serial (named_links_of_key o))
    (sym (placed c.args.slots.now.slots c.args.places.now.entries c.args.ring _ c.in-Some.ensures.value))

pub returns-in-None : goal.returns-in-None
returns-in-None c =
    sym (ap (λ (o : Option Key). has_link c.args.serial (named_links_of_key o))
    (placed c.args.slots.now.slots c.args.places.now.entries c.args.ring _ c.in-None.ensures.value))
