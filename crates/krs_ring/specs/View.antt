-- Which waiting list a ring stands for.
use Rattle.std.specs.Prelude.{◌++◌, ◌≤◌}
use Rattle.krs_model.specs.Notes.{Stream.loss_if, Waiting.greatest_capacity}
use Rattle.krs_ring.specs.{Ring.Ring, Slots.{HasNoLoss, notes_of}, declared.ring.NoteRing.TheInside.Inside}

-- the loss that is owed, then what the slots stand for
abbrev pub ring_of : Inside → Ring
ring_of r = record { capacity = r.slots.capacity; waiting = loss_if r.owed ++ notes_of r.slots.items }

-- it has room for some records, at most as many as a queue may hold, and keeps no loss in a slot
pub record IsNoteRing (r : Inside) : Type 0 where
  pub room : 1 ≤ r.slots.capacity
  pub bound : r.slots.capacity ≤ greatest_capacity
  pub kept : HasNoLoss r.slots.items
