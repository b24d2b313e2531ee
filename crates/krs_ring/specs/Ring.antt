-- What a contract sees of a ring.
use Rattle.std.specs.Prelude.{[], List, ℕ}
use Rattle.krs_types.specs.declared.note.Record.{Record}

-- how many records other than losses may wait, and what waits, oldest first
pub record Ring : Type 0 where
  pub capacity : ℕ
  pub waiting : List Record

-- one in which nothing waits
abbrev pub empty_ring : ℕ → Ring
empty_ring capacity = record { capacity = capacity; waiting = [] }
