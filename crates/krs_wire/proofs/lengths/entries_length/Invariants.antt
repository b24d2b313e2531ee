use Rattle.std.proofs.Common.{◌+◌, ◌≡◌, flat_map, length, min, take}
use Rattle.krs_wire.specs.Bodies.{entry_field}
use Rattle.krs_wire.proofs.lengths.entries_length.Given as goal

abbrev pub invariant-loop-entry : goal.invariant-loop-entry
invariant-loop-entry l =
    l.length ≡ min (4 + length (flat_map entry_field.encode (take l.entry-index l.lines))) 18446744073709551615
