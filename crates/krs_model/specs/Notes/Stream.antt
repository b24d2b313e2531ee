-- What a bounded queue gives to its reader, said over all that came for it and all that was taken of it:
-- core-api/watch_queue.rst, "Watch Queue (Notification Output) API". It knows of nothing that waits.
use Rattle.std.specs.Prelude.{[], ◌++◌, ◌+◌, ◌-◌, ◌∷◌, Bool, false, if◌then◌else◌, List, nat_lt, not, ℕ}
use Rattle.krs_types.specs.declared.note.Record.{Record, TheVariants.Loss}
use Rattle.krs_model.specs.Notes.Bytes.{is_loss}

-- a record came for the queue, or its reader took one
pub data Move : Type 0 where
  Posted : Record → Move
  Took : Record → Move

-- what was taken, in order
abbrev pub taken : List Move → List Record
taken [] = []
taken (Posted note ∷ moves) = taken moves
taken (Took note ∷ moves) = note ∷ taken moves

-- the room that a record takes: none for a loss (profile, loss records take no room)
abbrev pub room_of : Record → ℕ
room_of note = if is_loss note then 0 else 1

-- a record that came, and how many other than losses had been taken by then
pub record Call : Type 0 where
  pub note : Record
  pub taken_before : ℕ

-- what came, in order, where `before` other than losses had been taken before these moves
abbrev pub calls : ℕ → List Move → List Call
calls before [] = []
calls before (Posted note ∷ moves) = record { note = note; taken_before = before } ∷ calls before moves
calls before (Took note ∷ moves) = calls (before + room_of note) moves

-- a call is kept where those kept before it, less those taken before it, are fewer than the capacity: profile, exact
-- rings
abbrev pub is_kept : ℕ → ℕ → Call → Bool
is_kept capacity kept call = nat_lt (kept - call.taken_before) capacity

-- a record that came, and whether it was kept
pub record Verdict : Type 0 where
  pub note : Record
  pub was_kept : Bool

-- a verdict for each call, where `kept` had been kept before these calls
abbrev pub verdicts : ℕ → ℕ → List Call → List Verdict
verdicts capacity kept [] = []
verdicts capacity kept (call ∷ calls) =
    record { note = call.note; was_kept = is_kept capacity kept call }
    ∷ verdicts capacity (kept + (if is_kept capacity kept call then 1 else 0)) calls

-- there is a first one, and it was not kept
abbrev pub begins_with_drop : List Verdict → Bool
begins_with_drop [] = false
begins_with_drop (v ∷ vs) = not v.was_kept

-- a loss, or nothing
abbrev pub loss_if : Bool → List Record
loss_if lost = if lost then Loss ∷ [] else []

-- the kept ones in order, and a loss after each whose next is there and was not kept
abbrev pub kept_and_losses : List Verdict → List Record
kept_and_losses [] = []
kept_and_losses (v ∷ vs) =
    if v.was_kept then v.note ∷ (loss_if (begins_with_drop vs) ++ kept_and_losses vs) else kept_and_losses vs

-- what a queue of this capacity has given, and still gives, after these moves
abbrev pub stream : ℕ → List Move → List Record
stream capacity moves = kept_and_losses (verdicts capacity 0 (calls 0 moves))
