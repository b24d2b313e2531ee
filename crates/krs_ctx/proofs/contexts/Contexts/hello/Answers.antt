use Rattle.std.proofs.Common.{refl}
use Rattle.krs_ctx.proofs.ToldLemmas.{greeted_told, opened_back, opened_next, refused, wants}
use Rattle.krs_ctx.proofs.contexts.Contexts.hello.Goals as goal

pub returns-in_err-number-clause-done : goal.returns-in_err-number-clause-done
returns-in_err-number-clause-done c =
    refused _ _ _ _ _ c.from_residual.ensures.1 (λ s. rw (c.in_err-number.ensures.given s) refl) refl

pub returns-in_err-open-clause-done : goal.returns-in_err-open-clause-done
returns-in_err-open-clause-done c =
    wants _ _ _ _ c.from_residual-in_err-open.ensures.1 (λ s. rw (c.in_ok-number.ensures.given s) refl)
    c.in_err-open.ensures.err

pub returns-clause-done : goal.returns-clause-done
returns-clause-done c = λ s.
    greeted_told s c.args.self.now _ c.args.client c.args.caller c.args.made c.args.made c.in_ok-number.number
    (c.in_ok-number.ensures.given s) refl
    c.in_ok-open.ensures.ok c.in_ok-number.ensures.number

pub returns-clause-last : goal.returns-clause-last
returns-clause-last c =
    opened_next c.args.self.now _ c.args.client c.args.caller c.args.made c.in_ok-number.number
    c.in_ok-open.ensures.ok c.in_ok-number.ensures.number

pub returns-clause-back : goal.returns-clause-back
returns-clause-back c = λ none.
    opened_back c.args.self.now _ c.args.client c.args.caller c.args.made c.in_ok-number.number
    c.in_ok-number.ensures.fit none c.in_ok-open.ensures.ok
    c.in_ok-number.ensures.number
