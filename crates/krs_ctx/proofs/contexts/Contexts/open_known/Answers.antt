use Rattle.std.proofs.Common.{◌≡◌, OnOk, Option, subst, ℕ}
use Rattle.krs_model.specs.{Asks.Hello.with_context, State.State}
use Rattle.krs_ctx.specs.Anchors.{anchored}
use Rattle.krs_ctx.proofs.contexts.Contexts.open_known.Goals as goal

pub returns-clause-ok : goal.returns-clause-ok
returns-clause-ok c =
    subst (λ (ring : Option ℕ). OnOk c.open_with.result
    ((s : State)
    → anchored s c.open_with.new.self ≡ with_context (anchored s c.args.self.now) c.args.client c.args.caller
    ring))
    c.uid_session-session.ensures c.open_with.ensures.ok
