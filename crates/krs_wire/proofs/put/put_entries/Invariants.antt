use Rattle.std.proofs.Common.{◌++◌, ◌≡◌, flat_map, length, take, w32}
use Rattle.std.specs.{Int.to_le_bytes, List.AllByRecursion}
use Rattle.krs_wire.specs.Bodies.{entry_field}
use Rattle.krs_wire.proofs.put.put_entries.Given as goal

abbrev pub invariant-loop-line : goal.invariant-loop-line
invariant-loop-line l = record {
  written : l.out.items ≡
      (l.fn.out.items ++ to_le_bytes w32 (length l.lines)) ++ flat_map entry_field.encode (take l.line-index l.lines);
  fits : AllByRecursion entry_field.Fits (take l.line-index l.lines);
}
