use Rattle.std.proofs.Common.{◌-◌, ◌≡◌, length, take, w32}
use Rattle.krs_wire.specs.Field.{many_read, number}
use Rattle.krs_wire.proofs.CountLemmas.{with_front}
use Rattle.krs_wire.proofs.fields.subtypes_at.Given as goal

abbrev pub invariant-loop-place : goal.invariant-loop-place
invariant-loop-place l =
    (length l.words ≡ 8)
    × (with_front (take l.place l.words) (many_read (number w32) (8 - l.place) l.rest)
    ≡ many_read (number w32) 8 l.bytes)
