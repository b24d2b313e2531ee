use Rattle.std.proofs.Common.{arith, Err, false, None, Ok, Result, Some, ℕ}
use Rattle.krs_types.specs.declared.{ask.Answer.Answer, errno.Errno.Errno}
use Rattle.krs_wire.specs.Reply.{shape_of, untagged}
use Rattle.krs_wire.proofs.{FieldLemmas.IsBytes, ReplyLemmas.{found_untagged, only_by, reply_takes}}
use Rattle.krs_wire.proofs.replies.decode_reply.Goals as goal

pub returns-in-Ok-Some-clause-exact : goal.returns-in-Ok-Some-clause-exact
returns-in-Ok-Some-clause-exact c =
    found_untagged (shape_of c.args.op.now) c.args.bytes.now (c.in-Ok-Some.reply, c.in-Ok-Some._tag, c.in-Ok-Some.size)
    (λ i. omega (arith, c.type_inv.bytes i)) (rw c.in-Ok-Some.field-0-is at c.in-Ok-Some.ensures.read)

pub returns-in-Ok-Some-clause-found : goal.returns-in-Ok-Some-clause-found
returns-in-Ok-Some-clause-found c =
    let bytes : IsBytes c.args.bytes.now = λ i. omega (arith, c.type_inv.bytes i) in
    let exact = found_untagged (shape_of c.args.op.now) c.args.bytes.now
    (c.in-Ok-Some.reply, c.in-Ok-Some._tag, c.in-Ok-Some.size) bytes
    (rw c.in-Ok-Some.field-0-is at c.in-Ok-Some.ensures.read) in
    (reply_takes false (shape_of c.args.op.now) c.args.bytes.now
    (untagged (c.in-Ok-Some.reply, c.in-Ok-Some.size)) bytes exact).front

pub returns-in-Ok-Some-clause-only : goal.returns-in-Ok-Some-clause-only
returns-in-Ok-Some-clause-only c =
    only_by {X = Result Answer Errno × ℕ} false (shape_of c.args.op.now) c.args.bytes.now untagged
    (Ok (Some (c.in-Ok-Some.reply, c.in-Ok-Some.size)))
    (found_untagged (shape_of c.args.op.now) c.args.bytes.now (c.in-Ok-Some.reply, c.in-Ok-Some._tag, c.in-Ok-Some.size)
    (λ i. omega (arith, c.type_inv.bytes i)) (rw c.in-Ok-Some.field-0-is at c.in-Ok-Some.ensures.read))

pub returns-in-Ok-None-clause-only : goal.returns-in-Ok-None-clause-only
returns-in-Ok-None-clause-only c =
    only_by {X = Result Answer Errno × ℕ} false (shape_of c.args.op.now) c.args.bytes.now untagged (Ok None)
    (rw c.in-Ok-None.field-0-is at c.in-Ok-None.ensures.read)

pub returns-in-Err-clause-only : goal.returns-in-Err-clause-only
returns-in-Err-clause-only c =
    only_by {X = Result Answer Errno × ℕ} false (shape_of c.args.op.now) c.args.bytes.now untagged (Err c.in-Err.fault)
    c.in-Err.ensures.read
