use Rattle.std.proofs.Common.{sym}
use Rattle.krs_keys.specs.{Keys.named_links_of_key, Places.held}
use Rattle.krs_keys.proofs.LinkNames.{linked_at}
use Rattle.krs_keys.proofs.slots.links_at.Goals as goal

pub returns-in-Some : goal.returns-in-Some
returns-in-Some c =
    sym (linked_at c.args.serial (named_links_of_key (held c.args.slots.now.slots c.args.place)) c.in-Some.field-0
    c.in-Some.ensures.there)
