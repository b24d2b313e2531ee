use Rattle.std.proofs.{Common.{◌≡◌, inl, inr, of_z, to_z, w32}, Math.Facts.to_z-of_z, lemmas.Result.err_from_is_err_and}
use Rattle.krs_remote.proofs.RemoteLemmas.{if_err, if_ok}
use Rattle.krs_remote.proofs.remote.Remote.rlist.Goals as goal

pub returns-in_err-reply-clause-err : goal.returns-in_err-reply-clause-err
returns-in_err-reply-clause-err g c =
    let back : to_z w32 (of_z w32 c.args.id) ≡ c.args.id = to_z-of_z c.ranges.id in
    let p = err_from_is_err_and c.from_residual.result c.from_residual.ensures.1 in
    rw (p.1, p.2) (inl (rw back at c.in_err-reply.ensures.err))

pub returns-clause-ok : goal.returns-clause-ok
returns-clause-ok g c =
    let back : to_z w32 (of_z w32 c.args.id) ≡ c.args.id = to_z-of_z c.ranges.id in
    if_ok c.list.result _ _ (rw back at c.list.ensures.ok)
    (λ output lists. (c.in_ok-reply.reply, _, rw back at c.in_ok-reply.ensures.ok, lists))

pub returns-clause-err : goal.returns-clause-err
returns-clause-err g c =
    let back : to_z w32 (of_z w32 c.args.id) ≡ c.args.id = to_z-of_z c.ranges.id in
    if_err c.list.result _ _ (rw back at c.list.ensures.err)
    (λ stop stops. inr (c.in_ok-reply.reply, _, rw back at c.in_ok-reply.ensures.ok, stops))
