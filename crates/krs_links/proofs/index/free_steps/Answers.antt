use Rattle.std.proofs.Common.{◌∙◌, arith, sym}
use Rattle.krs_links.proofs.FreeLemmas.{taken_further}
use Rattle.krs_links.proofs.index.free_steps.Goals as goal

pub taken-smaller : goal.taken-smaller
taken-smaller c =
    let further = taken_further c.args.digest c.taken.steps c.behind.result c.args.entries.now.entries
    (omega (arith, c.taken.auto.steps-fits)) c.taken.invariant.each c.behind.ensures
    (sym c.taken-test.true ∙ c.contains_key.ensures) in
    omega (arith, further.0)

pub taken-preserved : goal.taken-preserved
taken-preserved c =
    let further = taken_further c.args.digest c.taken.steps c.behind.result c.args.entries.now.entries
    (omega (arith, c.taken.auto.steps-fits)) c.taken.invariant.each c.behind.ensures
    (sym c.taken-test.true ∙ c.contains_key.ensures) in
    record { most = further.0; each = further.1 }
