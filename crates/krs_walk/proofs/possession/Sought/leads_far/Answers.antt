use Rattle.std.proofs.Common.{◌+◌, ◌∙◌}
use Rattle.krs_model.specs.Levels.{search_depth}
use Rattle.krs_walk.specs.Seeking.{heads, links_it, nested}
use Rattle.krs_walk.proofs.{DepthLemmas.any_heads, HintLemmas.{at_once, from_nested}}
use Rattle.krs_walk.proofs.possession.Sought.leads_far.Goals as goal

pub returns-then-climbs : goal.returns-then-climbs
returns-then-climbs c = λ links.
    let s = c.args.self.now in
    any_heads (links_it s) (nested s) (heads s) search_depth
    ∙ c.climbs.ensures c.if-climbs.true (1 + 1)
    (from_nested (links_it s) (nested s) c.in-Some-above.above c.in-Some.ring 1 c.in-Some-above.ensures
    (at_once (links_it s) (nested s) c.in-Some.ring (c.links_at.ensures links)))
