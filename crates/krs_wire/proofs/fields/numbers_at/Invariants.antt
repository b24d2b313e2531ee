use Rattle.std.proofs.Common.{◌-◌, ◌≡◌, w32}
use Rattle.krs_wire.specs.Field.{many_read, number}
use Rattle.krs_wire.proofs.CountLemmas.{with_front}
use Rattle.krs_wire.proofs.fields.numbers_at.Given as goal

abbrev pub invariant-loop : goal.invariant-loop
invariant-loop l =
    with_front l.numbers.items (many_read (number w32) (l.count - l.counter) l.rest)
    ≡ many_read (number w32) l.count l.bytes
