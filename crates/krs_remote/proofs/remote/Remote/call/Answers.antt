use Rattle.std.proofs.{Common.{inl, inr}, lemmas.Result.err_from_is_err_and}
use Rattle.krs_remote.proofs.RemoteLemmas.{if_err, if_ok}
use Rattle.krs_remote.proofs.remote.Remote.call.Goals as goal

pub returns-in_err-reply-clause-err : goal.returns-in_err-reply-clause-err
returns-in_err-reply-clause-err g c =
    let p = err_from_is_err_and c.from_residual.result c.from_residual.ensures.1 in
    rw (p.1, p.2) (inl c.in_err-reply.ensures.err)

pub returns-in-Ok-clause-ok : goal.returns-in-Ok-clause-ok
returns-in-Ok-clause-ok g c =
    if_ok c.act.result _ _ c.act.ensures.ok
    (λ output acts. (c.in_ok-reply.reply, _, c.in_ok-reply.ensures.ok, rw c.in-Ok.is acts))

pub returns-in-Ok-clause-err : goal.returns-in-Ok-clause-err
returns-in-Ok-clause-err g c =
    if_err c.act.result _ _ c.act.ensures.err
    (λ stop breaks. inr (c.in_ok-reply.reply, _, c.in_ok-reply.ensures.ok, rw c.in-Ok.is breaks))
