use Rattle.std.proofs.Common.{sym}
use Rattle.krs_keys.specs.Keys.{shown}
use Rattle.krs_walk.proofs.DepthLemmas.{chain_below, no_chain}
use Rattle.krs_walk.proofs.height.+has_chain.Goals as goal

pub returns-then-count-eq0 : goal.returns-then-count-eq0
returns-then-count-eq0 t c = sym (no_chain (shown c.args.keys.now.keys) c.args.key c.args.count c.if-count-eq0.true)

pub loop-nested-init : goal.loop-nested-init
loop-nested-init t c =
    chain_below (shown c.args.keys.now.keys) c.args.key c.args.count c.rings_of-rings.result.now
    c.if-count-eq0.false c.rings_of-rings.ensures
