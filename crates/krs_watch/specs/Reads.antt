-- A read of one queue.
use Rattle.std.specs.Prelude.{◌≡◌, Err, List, Ok, Result, Some, ℕ}
use Rattle.krs_types.specs.declared.fault.Fault.{Fault}
use Rattle.krs_model.specs.{Asks.Watching.after_read, Notes.Bytes.bytes_of_all}
use Rattle.krs_model.specs.{Notes.Front.{front, readable}, Outcome.Fails, State.Queue, Table.{alter, at, Table}}

-- what fits is taken and its bytes are given; where that is refused, or memory runs out, nothing is taken
abbrev pub ReadsQueue : ℕ → Queue → Result (List ℕ) Fault → Queue → Type 0
ReadsQueue room old (Ok bytes) new =
    (readable room old.waiting ≡ Ok (front room old.waiting))
    × (bytes ≡ bytes_of_all (front room old.waiting))
    × (new ≡ after_read room old)
ReadsQueue room old (Err e) new = Fails e (readable room old.waiting) × (new ≡ old)

-- the same of the queue at a number, where it is there
abbrev pub ReadsAt : ℕ → ℕ → Table Queue → Result (List ℕ) Fault → Table Queue → Type 0
ReadsAt number room old (Ok bytes) new = (q : Queue) → at old number ≡ Some q →
    (readable room q.waiting ≡ Ok (front room q.waiting))
    × (bytes ≡ bytes_of_all (front room q.waiting))
    × (new ≡ alter old number (after_read room))
ReadsAt number room old (Err e) new =
    ((q : Queue) → at old number ≡ Some q → Fails e (readable room q.waiting)) × (new ≡ old)
