use Rattle.std.proofs.Common.{◌+◌, ◌∙◌, ap, arith}
use Rattle.krs_model.specs.Table.{at, put, Table, without}
use Rattle.krs_model.proofs.Tables.Changes.{at_put_none, without_put}
use Rattle.krs_keys.specs.{Places.by_place, declared.key.Key.Key}
use Rattle.krs_keys.proofs.key_table.put_two.Goals as goal

pub put_in-requires-2-clause-absent : goal.put_in-requires-2-clause-absent
put_in-requires-2-clause-absent c =
    let n = c.args.serial in
    ap (λ (t : Table Key). at t (n + 1)) c.in_ok-put_in.ensures.ok
    ∙ at_put_none (by_place c.args.keys.now) n (n + 1) c.args.first (omega arith) c.requires.absent_next

-- the first goes out again
pub returns-in-Err-clause-err : goal.returns-in-Err-clause-err
returns-in-Err-clause-err c =
    let n = c.args.serial in
    c.take_out.ensures.keys
    ∙ (ap (λ (t : Table Key). without t n) (c.in-Err.ensures.err ∙ c.in_ok-put_in.ensures.ok)
    ∙ without_put (by_place c.args.keys.now) n c.args.first c.requires.absent)

pub returns-in-Ok-clause-ok : goal.returns-in-Ok-clause-ok
returns-in-Ok-clause-ok c =
    let n = c.args.serial in
    c.in-Ok.ensures.ok ∙ ap (λ (t : Table Key). put t (n + 1) c.args.second) c.in_ok-put_in.ensures.ok
