use Rattle.std.proofs.Common.{◌==◌, ◌∙◌, ap, filter, not}
use Rattle.krs_watch.proofs.WatchesLemmas.{ends_one}
use Rattle.krs_watch.proofs.watches.Watches.end_all_of.Goals as goal

pub ending-preserved : goal.ending-preserved
ending-preserved c =
    ap (filter (λ w. not (w.0.1 == c.args.number))) c.remove.ensures.watches
    ∙ (ends_one c.ending.self c.in-Some.key c.args.number ∙ c.ending.invariant)
