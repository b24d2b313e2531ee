use Rattle.std.proofs.Common.{◌*◌, ◌≡◌, arith, flat_map, length, w32}
use Rattle.krs_wire.specs.Field.{number}
use Rattle.krs_wire.proofs.CountLemmas.{length_numbers}
use Rattle.krs_wire.proofs.lengths.entry_length.Goals as goal

pub returns : goal.returns
returns c =
    let words = c.args.entry.now.subtypes in
    let size : length (flat_map (number w32).encode words) ≡ 4 * length words = length_numbers words in
    omega (arith, size)
