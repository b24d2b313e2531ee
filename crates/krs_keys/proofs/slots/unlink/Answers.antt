use Rattle.std.proofs.Common.{sym}
use Rattle.krs_keys.specs.{Keys.{name_at, named_links_of_key, without_key, without_link_at}, Places.{held, in_slots}}
use Rattle.krs_keys.proofs.{LinkNames.linked_at, LinkPlaces.{changed_alike, unchanged_at, without_at, without_none}}
use Rattle.krs_keys.proofs.slots.unlink.Goals as goal

pub returns-in_default-clause-changed : goal.returns-in_default-clause-changed
returns-in_default-clause-changed c =
    unchanged_at c.args.place (without_key c.args.serial) c.args.slots.now.slots
    (without_none c.args.serial (held c.args.slots.now.slots c.args.place) c.in_default.ensures.none)

pub returns-clause-linked : goal.returns-clause-linked
returns-clause-linked c =
    sym (linked_at c.args.serial (named_links_of_key (held c.args.slots.now.slots c.args.place)) c.in-Some.link
    c.in-Some.ensures.there)

pub returns-clause-changed : goal.returns-clause-changed
returns-clause-changed c =
    let slots = c.args.slots.now.slots in
    changed_alike c.args.place (without_link_at c.in-Some.link) (without_key c.args.serial) slots
    c.remove_link.new.slots.slots c.remove_link.ensures
    (without_at (name_at (in_slots slots c.args.places.now.entries)) c.args.serial c.in-Some.link
    (held slots c.args.place) c.requires.named c.in-Some.ensures.there)
