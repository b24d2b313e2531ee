use Rattle.std.proofs.{Common.{◌≡◌, arith, of_z, to_z, w32}, Math.Facts.to_z-of_z}
use Rattle.krs_remote.proofs.remote.Remote.list.Goals as goal

pub returns-in_ok-described-in-Ok-Bytes-clause-ok : goal.returns-in_ok-described-in-Ok-Bytes-clause-ok
returns-in_ok-described-in-Ok-Bytes-clause-ok g c =
    let back : to_z w32 (of_z w32 c.args.id) ≡ c.args.id = to_z-of_z c.ranges.id in
    rw (c.in-Ok-Bytes.is, c.in-Ok-Bytes.field-0-is) (
      c.in_ok-described-in-Ok-Bytes.described,
      rw back at c.in_ok-described-in-Ok-Bytes.ensures.ok,
      grind (arith, c.listing.ensures, c.in-Ok-Bytes.bytes-is),
    )
