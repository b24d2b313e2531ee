use Rattle.krs_walk.specs.Seeking.{links_it, nested}
use Rattle.krs_walk.proofs.HintLemmas.{at_once}
use Rattle.krs_walk.proofs.possession.Sought.leads_near.Goals as goal

pub returns-then-is_reached : goal.returns-then-is_reached
returns-then-is_reached c = λ links.
    let s = c.args.self.now in
    c.is_reached.ensures c.if-is_reached.true 1
    (at_once (links_it s) (nested s) c.in-Some.ring (c.links_at.ensures links))
