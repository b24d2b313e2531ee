-- The bytes of a record of a watch queue, all words little-endian: uapi linux/watch_queue.h, struct
-- watch_notification, struct watch_notification_removal and struct key_notification.
use Rattle.std.specs.Prelude.{[], ◌*◌, ◌++◌, ◌+◌, ◌<◌, ◌^◌, ◌∷◌, Bool, false, List, true, ℕ}
use Rattle.std.specs.Int.{to_le_bytes, w32, w64}
use Rattle.krs_types.specs.declared.note.KeyEvent.{KeyEvent, TheVariants.{Cleared, Instantiated, Invalidated, Linked}}
use Rattle.krs_types.specs.declared.note.KeyEvent.TheVariants.{Revoked, Setattr, Unlinked, Updated}
use Rattle.krs_types.specs.declared.note.Record.{Record, TheVariants.{Key, Loss, Removal}}

-- the record that tells of dropped ones
abbrev pub is_loss : Record → Bool
is_loss (Key subtype watch key aux) = false
is_loss (Removal watch id) = false
is_loss Loss = true

-- WATCH_TYPE_KEY_NOTIFY and WATCH_TYPE_META: enum watch_notification_type
abbrev pub type_of : Record → ℕ
type_of (Key subtype watch key aux) = 1
type_of (Removal watch id) = 0
type_of Loss = 0

-- enum key_notification_subtype
abbrev pub event_number : KeyEvent → ℕ
event_number Instantiated = 0
event_number Updated = 1
event_number Linked = 2
event_number Unlinked = 3
event_number Cleared = 4
event_number Revoked = 5
event_number Invalidated = 6
event_number Setattr = 7

-- what happened, of a key note; of the others enum watch_meta_notification_subtype
abbrev pub subtype_of : Record → ℕ
subtype_of (Key subtype watch key aux) = event_number subtype
subtype_of (Removal watch id) = 0
subtype_of Loss = 1

-- how many bytes it has
abbrev pub size_of : Record → ℕ
size_of (Key subtype watch key aux) = 16
size_of (Removal watch id) = 16
size_of Loss = 8

-- the id of its watch: 0 of a loss, which is the queue's own
abbrev pub watch_of : Record → ℕ
watch_of (Key subtype watch key aux) = watch
watch_of (Removal watch id) = watch
watch_of Loss = 0

-- word 0: the type in the low 24 bits, the subtype above it
abbrev pub kind_word : Record → ℕ
kind_word note = type_of note + 2 ^ 24 * subtype_of note

-- word 1, info: the size in the bits of WATCH_INFO_LENGTH, the watch in those of WATCH_INFO_ID, and no other bit
abbrev pub info_of : Record → ℕ
info_of note = size_of note + 2 ^ 8 * watch_of note

-- what follows the two words: the watched key and the other one, or the key whose watch is gone
abbrev pub tail_of : Record → List ℕ
tail_of (Key subtype watch key aux) = to_le_bytes w32 key ++ to_le_bytes w32 aux
tail_of (Removal watch id) = to_le_bytes w64 id
tail_of Loss = []

-- the bytes of a record
abbrev pub bytes_of : Record → List ℕ
bytes_of note = to_le_bytes w32 (kind_word note) ++ (to_le_bytes w32 (info_of note) ++ tail_of note)

-- the bytes of records, one after the other
abbrev pub bytes_of_all : List Record → List ℕ
bytes_of_all [] = []
bytes_of_all (note ∷ notes) = bytes_of note ++ bytes_of_all notes

-- its numbers fit their fields, as those of every record of the program do
abbrev pub Fits : Record → Type 0
Fits (Key subtype watch key aux) = (watch < 2 ^ 8) × (key < 2 ^ 32) × (aux < 2 ^ 32)
Fits (Removal watch id) = (watch < 2 ^ 8) × (id < 2 ^ 64)
Fits Loss = Unit {0}

-- the numbers of all these records fit their fields
abbrev pub AllFit : List Record → Type 0
AllFit [] = Unit {0}
AllFit (note ∷ notes) = Fits note × AllFit notes
