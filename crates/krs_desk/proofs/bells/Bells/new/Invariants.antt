use Rattle.std.proofs.Common.{◌≡◌, vec_capacity, vec_len}
use Rattle.krs_desk.proofs.bells.Bells.new.Given as goal

abbrev pub invariant-loop : goal.invariant-loop
invariant-loop l = record {
  room : vec_capacity l.bells ≡ vec_capacity l.initial.bells;
  count : vec_len l.bells ≡ l.counter;
}
