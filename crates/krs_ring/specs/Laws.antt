-- What a ring gives to its reader, over any posts and takes.
use Rattle.std.specs.Prelude.{[], ◌++◌, ◌≡◌, ◌≤◌, List, ℕ}
use Rattle.krs_types.specs.declared.note.Record.{Record}
use Rattle.krs_model.specs.Notes.{Stream.{Move, stream, taken}, Waiting.MovesTo}

-- what was taken, followed by what waits, is the stream
abbrev pub GivesItsStream : Type 0
GivesItsStream =
    (capacity : ℕ) (moves : List Move) (after : List Record) → 1 ≤ capacity → MovesTo capacity [] moves after →
    taken moves ++ after ≡ stream capacity moves
