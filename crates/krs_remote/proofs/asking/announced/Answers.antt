use Rattle.std.proofs.Common.{◌≡◌, length, rules}
use Rattle.krs_wire.specs.Reply.{shape_of}
use Rattle.krs_remote.proofs.HeadLemmas.{bad_head, good_told, not_memory}
use Rattle.krs_remote.proofs.asking.announced.Goals as goal

pub returns-in-Err-clause-bad : goal.returns-in-Err-clause-bad
returns-in-Err-clause-bad c = λ is.
    let four : length c.args.head.now ≡ 4 = search rules in
    bad_head (shape_of c.args.op.now) c.args.head.now c.in-Err.fault four
    (c.in-Err.ensures.exact (not_memory c.in-Err.fault c.stop_of.result c.stop_of.ensures is))

pub returns-clause-good : goal.returns-clause-good
returns-clause-good c = λ is.
    let four : length c.args.head.now ≡ 4 = search rules in
    good_told (shape_of c.args.op.now) c.args.head.now c.decode_reply2.result four c.decode_reply2.ensures.exact
    c.in_default.not-Err
