use Rattle.std.proofs.Common.{◌∙◌, ap, Ok, refl}
use Rattle.krs_ctx.specs.Anchors.{anchored}
use Rattle.krs_ctx.proofs.ToldLemmas.{fork_accepted, fork_refused, fork_told, is_ok, refused, wants}
use Rattle.krs_ctx.proofs.contexts.Contexts.fork.Goals as goal

pub returns-in_err-entered : goal.returns-in_err-entered
returns-in_err-entered c =
    refused _ _ _ _ _ c.from_residual-in_err-entered.ensures.1
    (λ s. fork_refused (anchored s c.args.self.now) c.args.client c.args.number c.in_ok-maker.maker.now _
    (c.in_ok-maker.ensures s) (c.in_err-entered.ensures.given s))
    refl

pub returns-in_err-caller : goal.returns-in_err-caller
returns-in_err-caller c =
    wants _ _ _ _ c.from_residual-in_err-caller.ensures.1
    (λ s. is_ok _ _
    (fork_accepted (anchored s c.args.self.now) c.args.client c.args.number c.in_ok-maker.maker.now
    (c.in_ok-maker.ensures s) (c.in_ok-entered.ensures.given s)))
    refl

pub returns-in_err-open_with : goal.returns-in_err-open_with
returns-in_err-open_with c =
    wants _ _ _ _ c.from_residual-in_err-open_with.ensures.1
    (λ s. is_ok _ _
    (fork_accepted (anchored s c.args.self.now) c.args.client c.args.number c.in_ok-maker.maker.now
    (c.in_ok-maker.ensures s) (c.in_ok-entered.ensures.given s)))
    c.in_err-open_with.ensures.err

pub returns : goal.returns
returns c = λ s.
    let m = c.in_ok-maker.maker.now in
    fork_accepted (anchored s c.args.self.now) c.args.client c.args.number m (c.in_ok-maker.ensures s)
    (c.in_ok-entered.ensures.given s)
    ∙ ap Ok (fork_told s c.args.self.now _ c.args.client m c.in_ok-caller.caller c.in_ok-entered.entered
    c.in_ok-caller.ensures c.in_ok-open_with.ensures.ok c.in_ok-entered.ensures.number)
