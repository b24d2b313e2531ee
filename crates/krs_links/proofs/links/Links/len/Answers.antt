use Rattle.std.proofs.Common.{◌∙◌, ap, refl, sym}
use Rattle.krs_links.specs.Kept.{links_kept}
use Rattle.krs_links.proofs.PlacesLemmas.{none_are_lists}
use Rattle.krs_links.proofs.links.Links.len.Goals as goal

pub returns-in-None-clause-unique : goal.returns-in-None-clause-unique
returns-in-None-clause-unique c = (none_are_lists (sym c.self.view_is ∙ ap links_kept c.in-None.is) refl).unique
