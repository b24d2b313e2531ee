-- Which records the slots of a ring stand for.
use Rattle.std.specs.Prelude.{[], ◌++◌, ◌∷◌, ◌≡◌, false, List, true}
use Rattle.krs_types.specs.declared.note.Record.{Record}
use Rattle.krs_model.specs.Notes.{Bytes.is_loss, Stream.loss_if}
use Rattle.krs_ring.specs.declared.ring.Slot.{Slot}

-- each kept record, and a loss after each that is marked
abbrev pub notes_of : List Slot → List Record
notes_of [] = []
notes_of (slot ∷ slots) = slot.kept ∷ (loss_if slot.lost ++ notes_of slots)

-- the last one marked
abbrev pub marked : List Slot → List Slot
marked [] = []
marked (slot ∷ []) = record slot { lost = true } ∷ []
marked (slot ∷ next ∷ slots) = slot ∷ marked (next ∷ slots)

-- none of the kept records is a loss
abbrev pub HasNoLoss : List Slot → Type 0
HasNoLoss [] = Unit {0}
HasNoLoss (slot ∷ slots) = (is_loss slot.kept ≡ false) × HasNoLoss slots
