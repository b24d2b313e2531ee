use Rattle.std.proofs.Common.{◌++◌, arith, w32}
use Rattle.std.specs.Int.{to_le_bytes}
use Rattle.krs_wire.specs.Bodies.{groups_field}
use Rattle.krs_wire.proofs.PutLemmas.{long_behind, then_put}
use Rattle.krs_wire.proofs.put.put_caller.Goals as goal
use Rattle.std.proofs.lemmas.Grind.{common_steps}

pub returns-clause-ok : goal.returns-clause-ok
returns-clause-ok c =
    let out = c.args.out.now.items in
    let uid = to_le_bytes w32 c.args.caller.now.uid in
    let gid = to_le_bytes w32 c.args.caller.now.gid in
    let groups = groups_field.encode c.args.caller.now.groups in
    let first = c.put_u32.new.out.items in
    let second = c.put_u32-2.new.out.items in
    let all = c.put_groups.new.out.items in
    then_put c.put_groups.result out uid (gid ++ groups) first all c.in_ok-put_u32.ensures.ok
    (then_put c.put_groups.result first gid groups second all c.in_ok-put_u32-2.ensures.ok c.put_groups.ensures.ok)

pub returns-clause-long : goal.returns-clause-long
returns-clause-long c = grind (arith, common_steps, w32, long_behind)
