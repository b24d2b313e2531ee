use Rattle.std.proofs.Common.{◌∙◌, ap, option_copied, sym, true}
use Rattle.krs_model.specs.Levels.{is_in}
use Rattle.krs_links.specs.Links.{serials}
use Rattle.krs_keys.specs.Keys.{named_links_of_content}
use Rattle.krs_walk.proofs.{ListsLemmas.in_at, PossessionLemmas.followed_there}
use Rattle.krs_walk.proofs.possession.Sought.links_at.Goals as goal

pub returns-then-links_at : goal.returns-then-links_at
returns-then-links_at c = λ _.
    let s = c.args.self.now in
    ap (is_in s.serial) (followed_there s.keys.now.keys s.clock s.context.now.caller c.args.ring c.in-Some.holder.now
    true (sym c.get.ensures ∙ ap option_copied c.in-Some.is) (sym c.is_followed.ensures ∙ c.if-is_followed.true))
    ∙ in_at (serials (named_links_of_content c.in-Some.holder.now.content)) c.args.place s.serial
    (c.links_at.ensures c.if-links_at.true)

pub returns-else-links_at : goal.returns-else-links_at
returns-else-links_at c = λ linked.
    let s = c.args.self.now in
    ap (is_in s.serial) (followed_there s.keys.now.keys s.clock s.context.now.caller c.args.ring c.in-Some.holder.now
    true (sym c.get.ensures ∙ ap option_copied c.in-Some.is) (sym c.is_followed.ensures ∙ c.if-is_followed.true))
    ∙ c.links_elsewhere.ensures linked
