use Rattle.std.proofs.Common.{◌∙◌, ap, List, ℕ}
use Rattle.krs_hold.specs.Tally.{all_less}
use Rattle.krs_context_asks.proofs.EnteredHolders.{attached_of, others_attached}
use Rattle.krs_context_asks.proofs.entering.let_go_others.Goals as goal

pub loop-other-init : goal.loop-other-init
loop-other-init c =
    let es = c.args.contexts.now.contexts in
    let listed = c.into_iter-other-iterator.ensures.into_iter_gives ∙ c.in_process-other-items.ensures.all in
    ap (λ (zs : List ℕ). all_less zs c.args.holders.now)
    (ap (attached_of es c.args.number) listed
    ∙ others_attached es c.args.process c.args.number c.in_process-other-items.ensures.rises)
