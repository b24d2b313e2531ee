use Rattle.std.proofs.Common.{◌≡◌, arith, Err, IsOk, rules, take, w32}
use Rattle.krs_wire.specs.Field.{number}
use Rattle.krs_wire.specs.{Reply.{reply_by, shape_of, status_fields}, declared.fault.WireFault.TheVariants.Memory}
use Rattle.krs_wire.proofs.{CaseLemmas.ok_body, ReplyLemmas.found_in}
use Rattle.krs_wire.proofs.replies.front_reply.Goals as goal

pub returns-in_err-reply-clause-memory : goal.returns-in_err-reply-clause-memory
returns-in_err-reply-clause-memory c = λ refused.
    let n = c.in_ok-len.len in
    let rest = c.in_ok-len.rest.now in
    let bad : c.tagged_at.result ≡ Err Memory = search rules in
    let ok = c.tagged_at.ensures.memory bad in
    let shape = shape_of c.args.op.now in
    let whole : IsOk (reply_by shape ((status_fields c.args.is_tagged).read (take n rest))) = search rules in
    found_in c.args.is_tagged shape ((number w32).read c.args.bytes.now) n rest
    (ok_body ((number w32).read c.args.bytes.now) (n, rest) c.in_ok-len.ensures.read) (omega arith) (omega arith)
    (omega arith) whole
