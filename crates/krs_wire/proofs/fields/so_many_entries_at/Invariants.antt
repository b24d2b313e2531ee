use Rattle.std.proofs.Common.{◌-◌, ◌≡◌}
use Rattle.krs_wire.specs.{Bodies.entry_field, Field.many_read}
use Rattle.krs_wire.proofs.CountLemmas.{with_front}
use Rattle.krs_wire.proofs.fields.so_many_entries_at.Given as goal

abbrev pub invariant-loop : goal.invariant-loop
invariant-loop l =
    with_front l.entries.items (many_read entry_field (l.count - l.counter) l.rest)
    ≡ many_read entry_field l.count l.bytes
