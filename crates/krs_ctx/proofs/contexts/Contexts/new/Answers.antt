use Rattle.krs_ctx.proofs.{FitLemmas.none_fit, WholeLemmas.none_whole}
use Rattle.krs_ctx.proofs.contexts.Contexts.new.Goals as goal

pub invariant_of-result : goal.invariant_of-result
invariant_of-result c = record {
  fit = none_fit _ c.new.ensures c.new-2.ensures.empty;
  whole = λ is. none_whole _ c.new-2.ensures.empty c.new-3.ensures.empty;
}
