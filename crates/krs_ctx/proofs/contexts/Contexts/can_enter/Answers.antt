use Rattle.std.proofs.Common.{sym}
use Rattle.krs_ctx.proofs.ToldLemmas.{passed_on}
use Rattle.krs_ctx.proofs.contexts.Contexts.can_enter.Goals as goal

pub returns-in_err-next_number-clause-given : goal.returns-in_err-next_number-clause-given
returns-in_err-next_number-clause-given c =
    λ s. passed_on _ _ _ c.from_residual.ensures.1 (c.in_err-next_number.ensures.given s)

pub returns-clause-given : goal.returns-clause-given
returns-clause-given c = λ s. sym (c.in_ok-next_number.ensures.given s)
