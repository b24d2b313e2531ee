-- What the bytes of records promise to a reader of a queue: uapi linux/watch_queue.h, struct watch_notification and
-- the masks WATCH_INFO_LENGTH and WATCH_INFO_ID.
use Rattle.std.specs.Prelude.{◌%◌, ◌*◌, ◌+◌, ◌/◌, ◌<◌, ◌^◌, ◌≡◌, All, bit_and, drop, length, List, ℕ}
use Rattle.std.specs.Int.{from_le_bytes, w32}
use Rattle.krs_types.specs.declared.note.Record.{Record}
use Rattle.krs_model.specs.{Lists.Begins, Notes.Bytes.AllFit}
use Rattle.krs_model.specs.Notes.Bytes.{bytes_of, bytes_of_all, Fits, size_of, subtype_of, tail_of, type_of, watch_of}

-- the little-endian word of four bytes at a place
abbrev pub word_at : List ℕ → ℕ → ℕ
word_at bytes at = from_le_bytes w32 (drop at bytes)

-- these bytes spell the record, as a reader takes them apart: the type and subtype of word 0; the length and watch of
-- word 1, info, in which no bit is set beyond those two; and what follows
pub record Spells (bytes : List ℕ) (note : Record) : Type 0 where
  pub size : length bytes ≡ size_of note
  pub note_type : word_at bytes 0 % 2 ^ 24 ≡ type_of note
  pub subtype : word_at bytes 0 / 2 ^ 24 ≡ subtype_of note
  pub info_length : bit_and (word_at bytes 4) 0x7f ≡ size_of note
  pub info_watch : bit_and (word_at bytes 4) 0xff00 ≡ 2 ^ 8 * watch_of note
  pub no_more_info : bit_and (word_at bytes 4) 0x7f + bit_and (word_at bytes 4) 0xff00 ≡ word_at bytes 4
  pub tail : drop 8 bytes ≡ tail_of note

-- the bytes of a record spell it
abbrev pub EachIsSpelled : Type 0
EachIsSpelled = (note : Record) → Fits note → Spells (bytes_of note) note

-- and no other bytes do
abbrev pub HasOneSpelling : Type 0
HasOneSpelling =
    (note : Record) (bytes : List ℕ) → All (λ b. b < 2 ^ 8) bytes → Spells bytes note → bytes ≡ bytes_of note

-- no record's bytes begin another's
abbrev pub NoneBeginsAnother : Type 0
NoneBeginsAnother = (r s : Record) → Fits r → Fits s → Begins (bytes_of r) (bytes_of s) → r ≡ s

-- bytes that are those of records, one after the other, are those of no other records
abbrev pub AreReadOneWay : Type 0
AreReadOneWay = (rs ss : List Record) → AllFit rs → AllFit ss → bytes_of_all rs ≡ bytes_of_all ss → rs ≡ ss
