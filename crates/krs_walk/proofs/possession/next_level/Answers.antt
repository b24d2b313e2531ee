use Rattle.std.proofs.Common.{◌∙◌, ap, arith}
use Rattle.krs_keys.specs.Keys.{shown}
use Rattle.krs_walk.specs.{Lists.join, Walks.followed_rings}
use Rattle.krs_walk.proofs.RoundsLemmas.{round_more}
use Rattle.krs_walk.proofs.possession.next_level.Goals as goal

pub loop-place-preserved : goal.loop-place-preserved
loop-place-preserved c =
    round_more (followed_rings (shown c.args.keys.now.keys) c.args.clock c.args.caller.now) c.args.seen.now
    c.loop-place.seen c.join.new.self c.args.start c.loop-place.place c.at-here.result
    c.loop-place.invariant (omega (arith, c.len-end.ensures.is)) c.at-here.ensures
    (c.in_ok-join.ensures ∙ ap (join c.loop-place.seen) c.followed_rings.ensures)
