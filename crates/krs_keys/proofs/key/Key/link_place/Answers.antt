use Rattle.std.proofs.Common.{◌≡◌, ◌≢◌, IfNone, IfSome, slice_get, Some, subst, sym}
use Rattle.krs_links.specs.Links.{serial_named, serials}
use Rattle.krs_keys.specs.{Keys.named_links_of_content, declared.key.Content.Content}
use Rattle.krs_keys.proofs.key.Key.link_place.Goals as goal

pub returns-in-Links-clause-there : goal.returns-in-Links-clause-there
returns-in-Links-clause-there c =
    subst (λ (content : Content). IfSome c.place_linked.result
    (λ place. slice_get (serials (named_links_of_content content)) place ≡ Some c.args.serial)) (sym c.in-Links.is)
    c.place_linked.ensures.there

pub returns-in-Links-clause-none : goal.returns-in-Links-clause-none
returns-in-Links-clause-none c =
    subst (λ (content : Content). IfNone c.place_linked.result
    (serial_named (named_links_of_content content) c.args.name.now ≢ Some c.args.serial)) (sym c.in-Links.is)
    c.place_linked.ensures.none
