use Rattle.std.proofs.{Common.{◌≡◌, ◌≤◌, ap, arith, decimal, length, length-append, refl}, lemmas.Fmt.length-decimal-le}
use Rattle.krs_types.specs.Kind.{kind_name}
use Rattle.krs_types.proofs.KindRows.{has_row}
use Rattle.krs_key_asks.proofs.reading.description.Goals as goal

pub new-requires : goal.new-requires
new-requires c =
    let key = c.args.key.now in
    let uid : length (decimal key.uid) ≤ 10 =
    length-decimal-le 10 key.uid (omega arith) (omega arith) (omega arith) in
    let gid : length (decimal key.gid) ≤ 10 =
    length-decimal-le 10 key.gid (omega arith) (omega arith) (omega arith) in
    let name : length (kind_name c.kind-kind.result) ≤ 7 = (has_row c.kind-kind.result).short in
    let desc : length c.desc-desc.result.now ≤ 4095 = c.desc-desc.ensures.bound in
    let hex : length c.hex_8.result ≡ 8 = rw c.hex_8.ensures refl in
    let head = simp length-append at (ap length c.in_ok-bytes.ensures) in
    omega (
      arith,
      c.in_ok-extend_from_slice.ensures.len,
      c.in_ok-push.ensures.len,
      c.in_ok-extend_from_slice-2.ensures.len,
    )
