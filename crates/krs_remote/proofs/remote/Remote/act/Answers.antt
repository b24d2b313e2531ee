use Rattle.std.proofs.{Common.{◌≡◌, of_z, rules, SFits, to_z, w32}, Math.Facts.to_z-of_z}
use Rattle.krs_remote.proofs.remote.Remote.act.Goals as goal

pub returns-in-Rlist-clause-ok : goal.returns-in-Rlist-clause-ok
returns-in-Rlist-clause-ok g c =
    let fits : SFits w32 c.in-Rlist.id = search rules in
    let back : to_z w32 (of_z w32 c.in-Rlist.id) ≡ c.in-Rlist.id = to_z-of_z fits in
    rw c.in-Rlist.is (rw back at c.rlist.ensures.ok)

pub returns-in-Rlist-clause-err : goal.returns-in-Rlist-clause-err
returns-in-Rlist-clause-err g c =
    let fits : SFits w32 c.in-Rlist.id = search rules in
    let back : to_z w32 (of_z w32 c.in-Rlist.id) ≡ c.in-Rlist.id = to_z-of_z fits in
    rw c.in-Rlist.is (rw back at c.rlist.ensures.err)
