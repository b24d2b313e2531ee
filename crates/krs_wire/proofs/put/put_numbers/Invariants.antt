use Rattle.std.proofs.Common.{◌++◌, ◌<◌, ◌^◌, ◌≡◌, flat_map, take, w32}
use Rattle.std.specs.{Int.to_le_bytes, List.AllByRecursion}
use Rattle.krs_wire.proofs.put.put_numbers.Given as goal

abbrev pub invariant-loop-number : goal.invariant-loop-number
invariant-loop-number l = record {
  written : l.out.items ≡ l.fn.out.items ++ flat_map (λ n. to_le_bytes w32 n) (take l.number-index l.numbers);
  fits : AllByRecursion (λ n. n < 256 ^ 4) (take l.number-index l.numbers);
}
