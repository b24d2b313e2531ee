use Rattle.krs_wire.specs.Reply.{shape_of}
use Rattle.krs_remote.proofs.{HeadLemmas.not_memory, WholeLemmas.{no_other, not_none, only_memory}}
use Rattle.krs_remote.proofs.asking.whole_reply.Goals as goal

pub returns-in-Ok-None-clause-none : goal.returns-in-Ok-None-clause-none
returns-in-Ok-None-clause-none c = λ is reply frame.
    not_none (shape_of c.args.op.now) c.args.tag c.args.frame.now reply c.in-Ok-None.field-0 c.in-Ok-None.field-0-is
    c.ranges.tag.fits c.in-Ok-None.ensures.only frame

pub returns-in-Err-clause-none : goal.returns-in-Err-clause-none
returns-in-Err-clause-none c = λ is reply frame.
    only_memory (shape_of c.args.op.now) c.args.tag c.args.frame.now reply c.in-Err.fault
    (not_memory c.in-Err.fault c.stop_of.result c.stop_of.ensures is) c.ranges.tag.fits c.in-Err.ensures.only frame

pub returns-else-found-tag-clause-none : goal.returns-else-found-tag-clause-none
returns-else-found-tag-clause-none c = λ is reply frame.
    no_other (shape_of c.args.op.now) c.args.tag c.args.frame.now reply c.in-Ok-Some.field-0 c.in-Ok-Some.reply
    c.in-Ok-Some.found c.in-Ok-Some.length c.in-Ok-Some.field-0-is c.ranges.tag.fits c.in-Ok-Some.ensures.only
    c.else-found-tag.either frame
