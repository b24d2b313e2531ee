use Rattle.std.proofs.Common.{◌∙◌, ap, Option, subst, sym}
use Rattle.krs_model.proofs.Tables.Changes.{alter_none}
use Rattle.krs_links.specs.Links.{has_link}
use Rattle.krs_keys.specs.Keys.{AreNamed, name_at, named_links_of_key, without_key}
use Rattle.krs_keys.specs.{Places.in_slots, declared.key.Key.Key}
use Rattle.krs_keys.proofs.{LinkNames.ring_named, PlacesLemmas.{in_slots_alter, placed}}
use Rattle.krs_keys.proofs.slots.unlink_in.Goals as goal

pub unlink-requires : goal.unlink-requires
unlink-requires c = record {
  named = subst (λ (o : Option Key). AreNamed (name_at (in_slots c.args.slots.now.slots c.args.places.now.entries))
      (named_links_of_key o)) (placed c.args.slots.now.slots c.args.places.now.entries c.args.ring _
      c.in-Some.ensures.value)
      (ring_named (in_slots c.args.slots.now.slots c.args.places.now.entries) c.args.ring c.requires.fit);
}

pub returns-in-Some-clause-linked : goal.returns-in-Some-clause-linked
returns-in-Some-clause-linked c =
    c.unlink.ensures.linked ∙ ap (λ (o : Option Key). has_link c.args.serial (named_links_of_key o))
    (sym (placed c.args.slots.now.slots c.args.places.now.entries c.args.ring _ c.in-Some.ensures.value))

pub returns-in-Some-clause-keys : goal.returns-in-Some-clause-keys
returns-in-Some-clause-keys c =
    in_slots_alter c.args.slots.now.slots c.unlink.new.slots.slots c.args.places.now.entries c.in-Some.place
    (without_key c.args.serial) c.requires.places c.unlink.ensures.changed c.args.ring (sym c.in-Some.ensures.value)

pub returns-in-None-clause-linked : goal.returns-in-None-clause-linked
returns-in-None-clause-linked c =
    sym (ap (λ (o : Option Key). has_link c.args.serial (named_links_of_key o))
    (placed c.args.slots.now.slots c.args.places.now.entries c.args.ring _ c.in-None.ensures.value))

pub returns-in-None-clause-keys : goal.returns-in-None-clause-keys
returns-in-None-clause-keys c =
    sym (alter_none (in_slots c.args.slots.now.slots c.args.places.now.entries) c.args.ring
    (without_key c.args.serial) (placed c.args.slots.now.slots c.args.places.now.entries c.args.ring _
    c.in-None.ensures.value))
