use Rattle.std.proofs.Common.{arith, Err, None, Ok, Result, Some, true, ℕ}
use Rattle.krs_types.specs.declared.{ask.Answer.Answer, errno.Errno.Errno}
use Rattle.krs_wire.specs.Reply.{shape_of, tagged}
use Rattle.krs_wire.proofs.ReplyLemmas.{found_tagged, only_by, reply_takes}
use Rattle.krs_wire.proofs.replies.decode_reply2.Goals as goal

pub unreachable-requires : goal.unreachable-requires
unreachable-requires c =
    found_tagged (shape_of c.args.op.now) c.args.bytes.now c.in-Ok-Some.reply c.in-Ok-Some.size
    (λ i. omega (arith, c.type_inv.bytes i))
    (rw (c.in-Ok-Some.field-0-is, c.in-None.is) at c.in-Ok-Some.ensures.read)

pub returns-in-Some-clause-found : goal.returns-in-Some-clause-found
returns-in-Some-clause-found c =
    (reply_takes true (shape_of c.args.op.now) c.args.bytes.now
    (tagged (c.in-Ok-Some.reply, c.in-Some.tag, c.in-Ok-Some.size)) (λ i. omega (arith, c.type_inv.bytes i))
    (rw (c.in-Ok-Some.field-0-is, c.in-Some.is) at c.in-Ok-Some.ensures.read)).front

pub returns-in-Some-clause-only : goal.returns-in-Some-clause-only
returns-in-Some-clause-only c =
    only_by {X = Result Answer Errno × ℕ × ℕ} true (shape_of c.args.op.now) c.args.bytes.now tagged
    (Ok (Some (c.in-Ok-Some.reply, c.in-Some.tag, c.in-Ok-Some.size)))
    (rw (c.in-Ok-Some.field-0-is, c.in-Some.is) at c.in-Ok-Some.ensures.read)

pub returns-in-Ok-None-clause-only : goal.returns-in-Ok-None-clause-only
returns-in-Ok-None-clause-only c =
    only_by {X = Result Answer Errno × ℕ × ℕ} true (shape_of c.args.op.now) c.args.bytes.now tagged (Ok None)
    (rw c.in-Ok-None.field-0-is at c.in-Ok-None.ensures.read)

pub returns-in-Err-clause-only : goal.returns-in-Err-clause-only
returns-in-Err-clause-only c =
    only_by {X = Result Answer Errno × ℕ × ℕ} true (shape_of c.args.op.now) c.args.bytes.now tagged (Err c.in-Err.fault)
    c.in-Err.ensures.read
